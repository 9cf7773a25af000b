pub mod History
pub mod Totals
pub mod Demands
pub mod Sheets
pub mod Calls
pub mod Refusals
