pub mod Values
pub mod Marked
