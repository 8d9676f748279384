use Rattle.std.proofs.Common.{◌≡◌, ◌+◌, ◌≤◌, ℕ, drop}
use Rattle.std.specs.Prelude.{◌==◌, count_by}
use Rattle.outcome_verdicts.proofs.orders.turns_of.Given as goal

abbrev pub invariant-loop-turn : goal.invariant-loop-turn
invariant-loop-turn l = record {
  counted : l.count + count_by (λ (x : ℕ). x == l.session) (drop l.turn-index l.turns) ≡ count_by (λ (x : ℕ). x == l.session) l.turns;
  most : l.count ≤ l.turn-index;
}
