pub mod Running
pub mod FreeRunning
pub mod Drafting
pub mod Taken
