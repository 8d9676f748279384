-- Definitions that follow the code, and that clauses of public functions name.
pub mod Adding
