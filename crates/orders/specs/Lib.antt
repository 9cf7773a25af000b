pub mod Orders
pub mod Meaning
