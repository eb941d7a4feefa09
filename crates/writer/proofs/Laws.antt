-- The laws of this crate, for its own proofs and for the crates above.
pub mod Bodies
pub mod Empty
pub mod PlainCodes
pub mod ReadBack
pub mod WriteBack
pub mod Writes
