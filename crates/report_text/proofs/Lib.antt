pub mod Pushing
pub mod Saying
pub mod InTurn
pub mod Blocks
pub mod Counting
pub mod FreeSaying
pub mod Ordered
pub mod Nonempty
