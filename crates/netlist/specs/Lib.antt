pub mod Netlists
pub mod Checks
