-- Definitions that only the inner functions' clauses and the proofs need: no clause of a public function has them.
pub mod Room
pub mod Shared
pub mod Queue
pub mod FreeRuns
