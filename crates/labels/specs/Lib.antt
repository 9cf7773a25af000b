pub mod Spots
pub mod Meaning
pub mod Promises
