-- The laws of this crate, for its own proofs and for the crates above.
pub mod Answers
pub mod Legal
pub mod Codec
pub mod Loops
pub mod StepBits
pub mod Part
pub mod Reads
pub mod Replies
pub mod Steps
pub mod NeverRefused
