-- The laws of this crate, for its own proofs and for the crates above.
pub mod ReplyNumbers
pub mod RoundTrips
pub mod Writing
