-- Definitions that only the inner functions' clauses need: no clause of a public function has them.
pub mod Table
pub mod Steps
pub mod Teardowns
pub mod Permutation
