pub mod Tries
pub mod Turns
pub mod One
