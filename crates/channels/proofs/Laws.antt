-- The laws of this crate, for its own proofs and for the crates above.
pub mod Cuts
pub mod Extracting
pub mod Walks
