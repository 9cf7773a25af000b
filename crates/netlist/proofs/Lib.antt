pub mod Numbers
pub mod One
mod Outputs
