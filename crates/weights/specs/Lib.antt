pub mod Table17
pub mod Weights
pub mod Inner
