-- Words of the search for blockers and for a cycle.
use Rattle.std.specs.Prelude.{ℕ, ◌==◌, Bool, if◌then◌else◌, not, ◌&&◌, List, [], ◌∷◌, ◌++◌, Option, Some, None}
use Rattle.std.specs.List.{fold}
use Rattle.row_versions.specs.declared.names.TxId.{TxId}
use Rattle.row_versions.specs.declared.names.RowId.{RowId}
use Rattle.row_versions.specs.Members.{same_tx, has}
use Rattle.sql_trees.specs.declared.stmt.Strength.{Strength}
use Rattle.ordered_slots.specs.Kept.{value_in}
use Rattle.row_locks.specs.declared.held.Held.{Held}
use Rattle.row_locks.specs.Held.{conflicts}
use Rattle.row_locks.specs.Waiting.{Waiting}

-- another transaction holds the row in conflict with the request
abbrev pub is_against : RowId → TxId → Strength → Held → Bool
is_against row tx strength h = ((h.row.0 == row.0) && not (same_tx h.tx tx)) && conflicts h.strength strength

abbrev pub blockers_in : Option Waiting → List TxId
blockers_in None = []
blockers_in (Some w) = w.blockers

-- whom the one in this slot waits for
abbrev pub blockers_at : List (ℕ × Waiting) → ℕ → List TxId
blockers_at waits slot = blockers_in (value_in waits slot)

-- the transaction is reached too
abbrev pub reach_one : List TxId → TxId → List TxId
reach_one reached tx = if has reached tx then reached else reached ++ tx ∷ []

-- these are reached too
abbrev pub reach : List TxId → List TxId → List TxId
reach txs reached = fold reach_one reached txs

-- those are reached too that the ones in these slots wait for
abbrev pub spread : List (ℕ × Waiting) → List ℕ → List TxId → List TxId
spread waits slots reached = fold (λ before slot. reach (blockers_at waits slot) before) reached slots
