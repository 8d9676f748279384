-- Definitions that only the inner functions' clauses need, and clauses of the crates above.
pub mod Spellings
pub mod KeyNames
