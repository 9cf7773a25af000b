pub mod Answers
pub mod Refusals
pub mod Fresh
pub mod One
