pub mod Entries
pub mod Puts
pub mod Found
pub mod Loads
pub mod Meaning
pub mod One
pub mod Sheets
pub mod Stretches
