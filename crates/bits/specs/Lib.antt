pub mod Bits
pub mod Codings
pub mod Codecs
