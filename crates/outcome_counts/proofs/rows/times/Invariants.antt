use Rattle.std.proofs.Common.{◌≡◌, ◌+◌, ◌≤◌, drop}
use Rattle.outcome_counts.specs.Rows.{times}
use Rattle.outcome_counts.proofs.rows.times.Given as goal

abbrev pub invariant-loop-other : goal.invariant-loop-other
invariant-loop-other l = record { counted : l.times + times l.row (drop l.other-index l.rows) ≡ times l.row l.rows; most : l.times ≤ l.other-index }
