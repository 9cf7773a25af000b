pub mod Wraps
pub mod Bounds
pub mod Marked
pub mod One
