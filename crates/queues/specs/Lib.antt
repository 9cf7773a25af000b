pub mod Lists
pub mod Queues
pub mod Found
pub mod Order
pub mod Pass
