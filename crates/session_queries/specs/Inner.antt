-- Definitions that only the inner functions' clauses and the proofs need: no clause of a public function has them.
pub mod Answers
pub mod Assigned
pub mod Fronts
pub mod Leaving
pub mod Ordering
pub mod Parts
pub mod Undefined
