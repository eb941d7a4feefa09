-- The laws of this crate, for its own proofs and for the crates above.
pub mod Kinds
pub mod ReadPairs
pub mod WrittenPairs
pub mod Turns
