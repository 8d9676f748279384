pub mod Growing
pub mod Targets
pub mod Inner
