pub mod Plans
