pub mod Seats
pub mod Acts
pub mod Free
pub mod FreeRuns
pub mod Orders
pub mod Refusals
pub mod FaultText
pub mod Inner
