pub mod Budget
pub mod Kinds
