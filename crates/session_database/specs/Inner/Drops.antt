-- By whom a table is noted to have been dropped last.
use Rattle.std.specs.Prelude.{◌≡◌, ◌==◌, ℕ, Bool, true, ◌&&◌, List, Option, Some}
use Rattle.std.specs.List.{list_any}
use Rattle.row_versions.specs.declared.names.TxId.{TxId}
use Rattle.row_versions.specs.Members.{same_tx}
use Rattle.session_machine.specs.Tables.{Dropped}

-- it is a DROP of the table at the place, by the transaction
abbrev pub is_drop_by : ℕ → TxId → Dropped → Bool
is_drop_by table tx d = (d.table == table) && same_tx d.by tx

-- each table that is noted was dropped by whom the note names
abbrev pub AreNoted : List Dropped → (ℕ → Option TxId) → Type 0
AreNoted drops noted = (table : ℕ) (tx : TxId) → noted table ≡ Some tx → list_any (is_drop_by table tx) drops ≡ true
