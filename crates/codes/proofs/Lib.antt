pub mod Places
mod Counts
pub mod One
pub mod Apart
