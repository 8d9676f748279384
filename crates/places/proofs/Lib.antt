pub mod Striking
