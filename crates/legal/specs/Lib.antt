pub mod Answers
pub mod Legal
