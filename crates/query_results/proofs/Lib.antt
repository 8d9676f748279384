pub mod Insertion
pub mod Placing
pub mod Unsorted
