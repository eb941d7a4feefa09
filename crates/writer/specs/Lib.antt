pub mod Noise
pub mod Empty
pub mod Writes
pub mod Bodies
