pub mod Trailer
pub mod Labels
pub mod Write
