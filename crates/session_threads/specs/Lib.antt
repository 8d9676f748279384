pub mod Seats
pub mod Closing
pub mod Crews
pub mod Inner
