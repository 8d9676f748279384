pub mod Lines
pub mod Words
pub mod Putting
pub mod Serving
