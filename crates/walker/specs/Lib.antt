pub mod Walking
pub mod Meaning
