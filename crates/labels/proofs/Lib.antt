pub mod Sections
pub mod Opened
pub mod Spots
pub mod Meaning
pub mod One
