pub mod Decimals
pub mod ColumnLemmas
pub mod Joins
