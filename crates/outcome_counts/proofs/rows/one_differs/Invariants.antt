use Rattle.std.proofs.Common.{◌≡◌, drop}
use Rattle.std.specs.List.{list_any}
use Rattle.outcome_counts.specs.Inner.Answers.{differs}
use Rattle.outcome_counts.proofs.rows.one_differs.Given as goal

abbrev pub invariant-loop-row : goal.invariant-loop-row
invariant-loop-row l = list_any (differs l.a l.b) (drop l.row-index l.rows) ≡ list_any (differs l.a l.b) l.rows
