use Rattle.std.proofs.Common.{◌≡◌, length}
use Rattle.std.specs.Prelude.{All}
use Rattle.timings.proofs.sorting.keys.Given as goal

abbrev pub invariant-loop : goal.invariant-loop
invariant-loop l = All (λ row. length row ≡ 1) l.rows.items
