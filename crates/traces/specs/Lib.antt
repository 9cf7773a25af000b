pub mod Traces
pub mod Meaning
