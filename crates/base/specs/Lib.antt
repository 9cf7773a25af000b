pub mod Bytes
pub mod Lists
pub mod Checks
pub mod Promises
pub mod Arrays
