pub mod Interleavings
pub mod Order
pub mod Permutations
pub mod Lines
pub mod Inner
pub mod Examples
