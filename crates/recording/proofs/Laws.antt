-- The laws of this crate, for its own proofs and for the crates above.
pub mod BlockSoFar
pub mod Blocks
pub mod Checked
pub mod CutReport
pub mod Frames
pub mod Reads
pub mod Units
pub mod Walk
pub mod Walked
