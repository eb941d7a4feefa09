pub mod Table16
pub mod Shape
