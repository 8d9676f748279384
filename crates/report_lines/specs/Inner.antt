-- Definitions that only the inner functions' clauses and the invariants need: no clause of a public function has them.
pub mod Places
pub mod Waiting
pub mod Trying
pub mod Progress
pub mod Due
