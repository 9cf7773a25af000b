pub mod Made
pub mod One
