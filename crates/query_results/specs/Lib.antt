pub mod Results
pub mod Ordering
pub mod Queries
pub mod Updates
pub mod Inner
