pub mod Typed
pub mod Trips
pub mod Refusals
pub mod Finds
pub mod Again
