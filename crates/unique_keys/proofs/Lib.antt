mod Equal
mod Filtered
mod Listed
pub mod Logged
mod Exact
mod Answered
mod Nulls
mod Keeping
mod Kept
mod Quick
mod Slots
mod SameCode
mod Places
mod Leading
mod Standing
mod Taking
