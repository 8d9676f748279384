-- To be believed. The transactions that wait, in the order in which their waits began.
use Rattle.std.specs.Prelude.{ℕ, Bool, not, List, filter, slice_set, position, Option, Some, None}
use Rattle.row_versions.specs.declared.names.TxId.{TxId}
use Rattle.row_versions.specs.Members.{same_tx, is_none_of}

-- a transaction that waits, and those that it waits for: they hold what it asked for in conflict (13.3.2)
pub record Waiting : Type 0 where
  pub tx : TxId
  pub blockers : List TxId

-- nobody is waited for
abbrev pub is_free : Waiting → Bool
is_free w = is_none_of w.blockers

-- it is the transaction's wait
abbrev pub is_wait_of : TxId → Waiting → Bool
is_wait_of tx w = same_tx w.tx tx

-- all waits but the transaction's
abbrev pub waits_without : TxId → List Waiting → List Waiting
waits_without tx waits = filter (λ w. not (is_wait_of tx w)) waits

abbrev pub set_wait : List Waiting → Waiting → Option ℕ → List Waiting
set_wait waits w None = waits
set_wait waits w (Some place) = slice_set waits place w

-- the transaction waits for these now, and its wait keeps its place
abbrev pub with_blockers : TxId → List TxId → List Waiting → List Waiting
with_blockers tx blockers waits = set_wait waits (record { tx = tx; blockers = blockers }) (position (is_wait_of tx) waits)
