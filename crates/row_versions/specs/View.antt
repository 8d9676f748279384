-- To be believed. What a view sees: PostgreSQL's manual, "Transaction Isolation", on what was committed when a statement or a
-- transaction began, and on the earlier updates of one's own transaction.
use Rattle.std.specs.Prelude.{ℕ, nat_lt, Bool, false, ◌&&◌, ◌||◌, List, Option, Some}
use Rattle.std.specs.Option.{option_map_or}
use Rattle.row_versions.specs.declared.write.Write.{Write}
use Rattle.row_versions.specs.declared.write.View.{View}
use Rattle.row_versions.specs.declared.write.Fate.{Fate}
use Rattle.row_versions.specs.declared.write.Fate.TheVariants.{Committed}
use Rattle.row_versions.specs.Members.{same_tx}
use Rattle.row_versions.specs.Log.{fate_of}

-- the transaction's commit is one of the first so many
abbrev pub committed_before : ℕ → Option Fate → Bool
committed_before commits fate = elim fate [ Some (Committed k) ↦ nat_lt k commits | other ↦ false ]

-- the view sees the write: it is committed before the view, or the view's own of an earlier command
abbrev pub sees : List Fate → View → Write → Bool
sees fates view w = committed_before view.commits (fate_of fates w.tx) || option_map_or (λ tx. same_tx w.tx tx && nat_lt w.command view.command) view.tx false
