pub mod Multisets
pub mod Pairs
pub mod Counting
pub mod Sameness
