pub mod Answers
pub mod OneToOne
