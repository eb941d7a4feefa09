-- The laws of this crate, for its own proofs and for the crates above.
pub mod Bodies
pub mod Budgets
pub mod Layout
pub mod Places
pub mod PlainCodes
pub mod Reads
