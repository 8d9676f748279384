use Rattle.std.proofs.Common.{◌≡◌, ℕ, ◌<◌, length, get_or, List}
use Rattle.std.specs.Prelude.{Option}
use Rattle.std.specs.Global.{Vec}
use Rattle.sql_values.specs.declared.value.Value.{Value}
use Rattle.outcome_counts.specs.Outcomes.{SameTable}
use Rattle.outcome_counts.proofs.alike.same_tables.Given as goal

abbrev pub invariant-loop-i : goal.invariant-loop-i
invariant-loop-i l = record { long : length l.a ≡ length l.b; each : (k : ℕ) (d : Option (Vec (List Value))) → k < l.i → SameTable (get_or l.a k d) (get_or l.b k d) }
