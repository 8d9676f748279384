pub mod Leaving
pub mod Code
pub mod Inner
