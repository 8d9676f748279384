pub mod OneHistory
pub mod Working
pub mod Waiting
pub mod Deadlocking
pub mod Following
pub mod Whole
pub mod Next
pub mod Replied
