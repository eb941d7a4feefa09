pub mod Legal
pub mod Steps
pub mod Part
pub mod Answers
pub mod Inner
