pub mod Fates
pub mod Redoing
pub mod Serially
pub mod Verdicts
