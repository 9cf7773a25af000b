pub mod Turns
pub mod Ordering
pub mod One
