pub mod Gets
pub mod Seeing
pub mod Filtered
pub mod Shown
pub mod Last
pub mod OpenTxs
pub mod Placed
