-- Definitions that only the inner functions' clauses and the proofs need: no clause of a public function has them.
pub mod Asked
pub mod Bound
pub mod Connectives
pub mod Extremes
pub mod Operators
pub mod Sortable
