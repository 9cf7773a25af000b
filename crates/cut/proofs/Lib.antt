pub mod Positions
pub mod One
pub mod Ends
pub mod Answers
pub mod Within
pub mod Trims
