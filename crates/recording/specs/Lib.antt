pub mod Walk
pub mod Units
pub mod Frames
pub mod Blocks
pub mod Checked
pub mod Told
pub mod Inner
