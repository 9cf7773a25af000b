pub mod Images
pub mod Verdicts
pub mod Loads
pub mod Frames
pub mod One
