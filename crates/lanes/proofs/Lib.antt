pub mod Shifts
pub mod One
