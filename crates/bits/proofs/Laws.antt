-- The laws of this crate, for its own proofs and for the crates above.
pub mod Bytes
pub mod Codecs
pub mod Codings
pub mod LaidBits
pub mod NumbersAsBits
pub mod NeverRefused
pub mod Views
