pub mod Unfinished
pub mod UnderWay
pub mod Left
pub mod One
pub mod Laws
