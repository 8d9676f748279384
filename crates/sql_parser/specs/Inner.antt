-- Definitions that only the inner functions' clauses need: no clause of a public function has them.
pub mod Calls
pub mod Parts
pub mod Transactions
pub mod Tables
pub mod Changes
pub mod Queries
pub mod Blocks
pub mod OneConstraint
pub mod Pieces
