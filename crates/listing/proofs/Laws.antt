-- The laws of this crate, for its own proofs and for the crates above.
pub mod Counted
pub mod InRoom
pub mod Lengths
pub mod Listed
