pub mod Members
pub mod Log
pub mod View
pub mod Rows
pub mod Newest
pub mod Laws
pub mod Inner
