pub mod Held
pub mod Waiting
pub mod Cycles
pub mod Laws
pub mod Inner
