-- The laws of this crate, for its own proofs and for the crates above.
pub mod Answers
pub mod ReadingTable
pub mod WritingTable
pub mod NeverRefused
pub mod Tables
