pub mod Stops
pub mod Inner
