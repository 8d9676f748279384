-- The list of entries that wait.
use Rattle.std.specs.Prelude.{◌≡◌, ℕ, ◌≤◌, List, Bool, false}
use Rattle.std.specs.List.{list_any}
use Rattle.report_lines.specs.declared.history.Line.{Line}
use Rattle.report_lines.specs.Report.{active, reports}

-- a line reports the instance
abbrev pub is_reported : List Line → ℕ → Bool
is_reported lines i = list_any (reports i) lines

-- the list holds the launched entries that are not reported, and no other entry is reported
pub record IsKept (lines : List Line) (launched : ℕ) (waiting : List ℕ) : Type 0 where
  pub waits : waiting ≡ active lines launched
  pub fresh : (i : ℕ) → launched ≤ i → is_reported lines i ≡ false
