pub mod Tables
pub mod Counting
pub mod Judging
