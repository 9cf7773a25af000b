pub mod Answers
pub mod Asking
pub mod Feeding
pub mod Draining
pub mod Telling
pub mod One
