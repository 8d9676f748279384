pub mod Piecewise
pub mod ByKind
