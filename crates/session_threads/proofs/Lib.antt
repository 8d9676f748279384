pub mod Sending
pub mod Stopping
