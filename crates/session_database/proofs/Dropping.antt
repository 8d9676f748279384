-- A table that is noted as dropped by a transaction that counts is gone.
use Rattle.std.proofs.Common.{◌≡◌, ℕ, true, ◌&&◌, ◌==◌, List, [], ◌∷◌, Option, ◌∙◌, ap, inl, inr}
use Rattle.std.specs.List.{list_any}
use Rattle.std.proofs.lemmas.Bool.{and_from, and_parts, eqb-true, or_cases, or_left, or_right}
use Rattle.row_versions.specs.declared.names.TxId.{TxId}
use Rattle.row_versions.specs.Log.{Content}
use Rattle.row_versions.proofs.Seeing.{same_tx as same_tx_id}
use Rattle.session_machine.specs.Tables.{Dropped, counts}
use Rattle.session_machine.specs.Inner.Pieces.{is_dropped}
use Rattle.session_database.specs.Inner.Drops.{is_drop_by}

counts_there : (c : Content) (own : Option TxId) (table : ℕ) (tx : TxId) (d : Dropped) → counts c own tx ≡ true → is_drop_by table tx d ≡ true
    → ((d.table == table) && counts c own d.by) ≡ true
counts_there c own table tx d h its =
    let parts = and_parts _ _ its in
    and_from _ _ parts.0 (ap (counts c own) (same_tx_id d.by tx (eqb-true _ _ parts.1)) ∙ h)

pub gone_by_note : (c : Content) (own : Option TxId) (drops : List Dropped) (table : ℕ) (tx : TxId) → counts c own tx ≡ true → list_any (is_drop_by table tx) drops ≡ true
    → is_dropped c own drops table ≡ true
gone_by_note c own [] table tx h there = cc
gone_by_note c own (d ∷ drops) table tx h there = elim (or_cases _ _ there) [
  | inl here ↦ or_left _ _ (counts_there c own table tx d h here)
  | inr later ↦ or_right _ _ (gone_by_note c own drops table tx h later)
]
