pub mod Texts
pub mod Meaning
