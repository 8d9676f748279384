-- Definitions that follow the code, and that clauses of public functions name.
pub mod Walk
pub mod Places
pub mod SoFar
pub mod Progress
