pub mod Sizes
pub mod Prefix
