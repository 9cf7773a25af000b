pub mod Numbers
pub mod One
