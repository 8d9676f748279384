pub mod First
pub mod Behind
pub mod Places
pub mod Rising
pub mod Members
pub mod Only
pub mod EntriesOf
