pub mod Turns
pub mod One
