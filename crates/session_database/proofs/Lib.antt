pub mod Erring
pub mod Waiting
pub mod Dropping
