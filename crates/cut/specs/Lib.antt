pub mod Cuts
pub mod Checks
pub mod Pass
