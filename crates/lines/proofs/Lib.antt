pub mod Bytes
pub mod Spelling
pub mod Digits
pub mod Ways
pub mod Meaning
pub mod One
