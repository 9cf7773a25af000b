pub mod Playing
pub mod One
