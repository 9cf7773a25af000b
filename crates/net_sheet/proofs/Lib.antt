pub mod Images
pub mod Verdicts
pub mod Loads
pub mod Trailers
pub mod One
