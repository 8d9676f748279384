-- What a statement keeps true of the database from one target to the next.
use Rattle.std.specs.Prelude.{◌≡◌, ℕ, ◌<◌, ◌+◌, ◌^◌, List, length, All, Some, slice_get}
use Rattle.update_recheck.specs.Outcome.{Outcome}
use Rattle.update_recheck.specs.Outcome.Outcome.{Takes}
use Rattle.session_machine.specs.declared.session.OpenTransaction.{OpenTransaction}
use Rattle.session_machine.specs.Rows.{Work, columns_in, values_of}
use Rattle.row_versions.specs.declared.names.RowId.{RowId}
use Rattle.row_versions.specs.declared.write.Write.{Write}
use Rattle.row_versions.specs.declared.write.Seen.{Seen}
use Rattle.row_versions.specs.Log.{Content, IsOpen}
use Rattle.session_machine.specs.Tables.{Database}
use Rattle.session_machine.specs.Sound.{RowsFit, RowsStay}

-- the row's first write is one of the table
abbrev pub RowIn : Content → ℕ → RowId → Type 0
RowIn c k row = (first : Write) × (slice_get c.log row.0 ≡ Some first) × (first.table.0 ≡ k)

abbrev pub RowsIn : Content → ℕ → List Seen → Type 0
RowsIn c k seen = All (λ (s : Seen). RowIn c k s.row) seen

-- rows fit their tables and stay in them
abbrev pub IsOrderly : Database → Type 0
IsOrderly db = RowsFit db.content db.catalog × RowsStay db.content

-- no transaction ended, no table was made, and rows fit and stay where they are
pub record IsKept (before after : Database) : Type 0 where
  pub fates : after.content.fates ≡ before.content.fates
  pub catalog : after.catalog ≡ before.catalog
  pub orderly : IsOrderly after
  pub rows : (row : RowId) (k : ℕ) → RowIn before.content k row → RowIn after.content k row

-- a version that is taken has a value for each column
abbrev pub CanTake : Database → Work → Outcome → Type 0
CanTake db w (Takes seen) = length (values_of db seen) ≡ length (columns_in db w)
CanTake db w outcome = Unit {0}

-- what a statement may rely on that runs in an open transaction: one more command can be counted in it, and rows fit their tables and stay in them
pub record IsRunning (db : Database) (t : OpenTransaction) : Type 0 where
  pub opened : IsOpen db.content t.tx
  pub room : t.command + 1 < 2 ^ 64
  pub orderly : IsOrderly db

-- and one that is at work at its table: the table is there
pub record IsAtWork (db : Database) (w : Work) : Type 0 where
  pub running : IsRunning db w.t
  pub within : w.table < length db.catalog.tables
