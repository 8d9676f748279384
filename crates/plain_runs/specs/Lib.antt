pub mod Alone
pub mod Inner
