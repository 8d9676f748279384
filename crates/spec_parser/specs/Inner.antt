-- Definitions that only the inner functions' clauses need: no clause of a public function has them.
pub mod Pieces
pub mod Places
pub mod Readers
pub mod Known
pub mod Stopping
