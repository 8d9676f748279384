pub mod Rows
pub mod Outcomes
pub mod Counts
pub mod Serial
pub mod Code
pub mod Inner
pub mod Endings
pub mod Tables
