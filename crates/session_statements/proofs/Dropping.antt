-- A DROP goes from one name to the next, up to the first table that it comes to.
use Rattle.std.proofs.Common.{◌≡◌, ℕ, List, Bool, true, ◌⊎◌}
use Rattle.session_machine.specs.declared.session.OpenTransaction.{OpenTransaction}
use Rattle.session_machine.specs.Tables.{Database}
use Rattle.session_statements.specs.Inner.Going.{drop_reaches}

-- it has come to a table, or to none before the names that are left
abbrev pub HasReached : Database → OpenTransaction → Bool → List (List ℕ) → List (List ℕ) → Database → Type 0
HasReached db t if_exists names rest now = (drop_reaches db t if_exists names ≡ true) ⊎ ((now ≡ db) × (drop_reaches db t if_exists rest ≡ drop_reaches db t if_exists names))
