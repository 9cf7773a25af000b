pub mod Left
pub mod Ways
pub mod Turns
pub mod Asks
pub mod Alone
pub mod Firing
pub mod Playing
pub mod One
