pub mod Cutting
pub mod Turns
pub mod Found
pub mod Sames
pub mod Capped
pub mod Ends
pub mod Told
pub mod Judging
