pub mod Writing
pub mod Inner
pub mod ReadBack
