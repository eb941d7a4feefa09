pub mod Lattice
pub mod Inner
