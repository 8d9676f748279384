pub mod Cures
pub mod Options
pub mod Places
pub mod Quote
pub mod Served
pub mod Shell
pub mod Terminal
