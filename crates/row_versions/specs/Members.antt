-- To be believed. Transactions, and lists of them.
use Rattle.std.specs.Prelude.{◌≡◌, ◌==◌, Bool, true, false, List, [], ◌∷◌}
use Rattle.std.specs.List.{list_any}
use Rattle.row_versions.specs.declared.names.TxId.{TxId}

-- the two are one transaction
abbrev pub same_tx : TxId → TxId → Bool
same_tx a b = a.0 == b.0

-- the transaction is in the list
abbrev pub has : List TxId → TxId → Bool
has list tx = list_any (λ other. same_tx other tx) list

-- nobody is in the list
abbrev pub is_none_of : List TxId → Bool
is_none_of txs = elim txs [ [] ↦ true | tx ∷ rest ↦ false ]

-- none is in the list twice
abbrev pub is_distinct : List TxId → Type 0
is_distinct [] = Unit {0}
is_distinct (tx ∷ rest) = (has rest tx ≡ false) × is_distinct rest
