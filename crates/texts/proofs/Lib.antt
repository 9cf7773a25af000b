pub mod Walk
pub mod Rules
pub mod Meaning
pub mod One
