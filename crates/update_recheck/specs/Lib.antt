pub mod Asked
pub mod Outcome
pub mod Settling
pub mod Laws
pub mod Inner
