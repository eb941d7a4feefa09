-- The laws of this crate, for its own proofs and for the crates above.
pub mod Passes
pub mod Greatest
pub mod Reasons
pub mod Answers
pub mod Loops
