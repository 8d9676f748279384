use Rattle.std.proofs.Common.{◌≡◌, take, ◌∷◌, Some}
use Rattle.sql_values.specs.Inner.Extremes.{best}
use Rattle.sql_values.proofs.aggregation.best.Given as goal

abbrev pub invariant-loop-value : goal.invariant-loop-value
invariant-loop-value l = best l.greatest (l.first ∷ take l.value-index l.others) ≡ Some l.best
