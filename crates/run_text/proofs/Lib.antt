pub mod Laws
pub mod Fronts
pub mod Inputs
pub mod Lines
pub mod One
