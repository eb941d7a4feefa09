pub mod Places
pub mod Rooms
