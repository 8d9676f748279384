-- The report so far.
use Rattle.std.specs.Prelude.{◌≡◌, ℕ, ◌<◌, List, length}
use Rattle.report_lines.specs.declared.history.Line.{Line}
use Rattle.report_lines.specs.declared.history.RunState.{RunState}
use Rattle.report_lines.specs.declared.history.RunState.TheVariants.{Due, Whole, Invalid}
use Rattle.report_lines.specs.History.{PermutationRun}
use Rattle.report_lines.specs.Code.Walk.{walked}

-- the lines so far, and how many entries are launched
pub record LinesSoFar : Type 0 where
  pub lines : List Line
  pub launched : ℕ

-- an entry that is due is the first of which no segment is there, and the first that isn't launched
abbrev pub IsAt : PermutationRun → ℕ → ℕ → RunState → Type 0
IsAt c count launched (Due e) = (e ≡ count) × ((count ≡ launched) × (count < length c.entries))
IsAt c count launched Whole = Unit {0}
IsAt c count launched Invalid = Unit {0}

-- this is the report of the entries of which so many segments are there
pub record IsReportSoFar (c : PermutationRun) (count : ℕ) (so_far : LinesSoFar) (state : RunState) : Type 0 where
  pub report_is : walked c count ≡ record { lines = so_far.lines; state = state }
  pub at : IsAt c count so_far.launched state
