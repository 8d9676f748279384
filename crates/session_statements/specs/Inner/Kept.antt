-- What a statement keeps that waits.
use Rattle.std.specs.Prelude.{◌≡◌, List, Option, Some, None}
use Rattle.std.specs.Global.{Vec}
use Rattle.row_versions.specs.declared.write.Seen.{Seen}
use Rattle.session_machine.specs.declared.session.Progress.{Progress}
use Rattle.session_machine.specs.Rows.{Work}

-- where it waits it keeps this list, at its table and in its view
abbrev pub HasKept : Work → List Seen → Option Progress → Option (Vec Seen) → Type 0
HasKept w targets None kept = Unit {0}
HasKept w targets (Some p) None = ⊥
HasKept w targets (Some p) (Some kept) = (kept.items ≡ targets) × (p.table.0 ≡ w.table) × (p.view ≡ w.view)
