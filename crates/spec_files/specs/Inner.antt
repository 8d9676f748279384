-- Definitions that only the inner functions' clauses need: no clause of a public function has them.
pub mod Drafts
pub mod Coming
pub mod Resting
pub mod GoesOn
