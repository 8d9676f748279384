pub mod Crews
pub mod Inner
