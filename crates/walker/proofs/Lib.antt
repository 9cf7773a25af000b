pub mod Stands
pub mod One
pub mod Meaning
