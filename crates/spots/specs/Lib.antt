pub mod Stores
pub mod Rounds
