pub mod Playing
pub mod Blocks
pub mod Meaning
pub mod One
