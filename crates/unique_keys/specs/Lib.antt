pub mod Members
pub mod Keys
pub mod Writes
pub mod Checks
pub mod Laws
pub mod Inner
