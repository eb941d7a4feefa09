pub mod Joining
pub mod Inner
