pub mod Commands
pub mod Answers
pub mod Meaning
