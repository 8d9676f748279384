-- Definitions that only the inner functions' clauses need: no clause of a public function has them.
pub mod NameParts
pub mod Rules
pub mod Runs
pub mod Quotes
pub mod SpecFronts
pub mod SqlFronts
