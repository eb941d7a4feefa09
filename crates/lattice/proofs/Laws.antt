-- The laws of this crate, for its own proofs and for the crates above.
pub mod Powers
pub mod Inverse
pub mod Lattice
pub mod RaisedErrors
pub mod WayBack
