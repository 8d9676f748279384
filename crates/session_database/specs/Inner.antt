-- Definitions that only the inner functions' clauses and the proofs need: no clause of a public function has them.
pub mod Waits
pub mod Keys
pub mod Drops
