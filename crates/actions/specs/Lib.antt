pub mod Actions
