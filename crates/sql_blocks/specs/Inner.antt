-- Definitions that only the parser's inner clauses and proofs need: no clause of a public function has them.
pub mod Parts
