pub mod Levels
pub mod Inner
