pub mod Moves
pub mod Meaning
