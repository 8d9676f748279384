pub mod Cases
pub mod Stopping
