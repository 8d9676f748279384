pub mod Transactions
pub mod Failures
pub mod Verdicts
pub mod Code
pub mod Inner
