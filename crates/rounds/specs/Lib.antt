pub mod Fires
pub mod Runs
pub mod Meaning
