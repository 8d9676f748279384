-- Definitions that only the inner functions' clauses need: no clause of a public function has them.
pub mod Cutting
pub mod Others
