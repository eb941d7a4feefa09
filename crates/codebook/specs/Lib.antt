pub mod Table18
pub mod Codebook
pub mod Packed
pub mod Rows
pub mod OneToOne
pub mod Inner
