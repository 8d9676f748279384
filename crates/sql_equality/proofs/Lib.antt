pub mod Rows
pub mod Sameness
