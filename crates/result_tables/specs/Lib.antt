pub mod Printed
pub mod Titles
pub mod Numeric
pub mod TableText
pub mod Faults
pub mod Inner
