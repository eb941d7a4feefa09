pub mod Allotment
pub mod Demand3
