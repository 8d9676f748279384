pub mod Parts
pub mod Kept
pub mod BlockViews
pub mod Blocks
pub mod Inner
