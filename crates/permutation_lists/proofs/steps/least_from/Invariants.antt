use Rattle.std.proofs.Common.{◌≡◌, ℕ, ◌≤◌, List}
use Rattle.std.specs.Prelude.{◌<◌, slice_index}
use Rattle.permutation_lists.specs.Inner.Prefixes.{from_session}
use Rattle.permutation_lists.proofs.steps.least_from.Given as goal

abbrev pub invariant-loop-session : goal.invariant-loop-session
invariant-loop-session l = record {
  above : l.from ≤ l.session;
  none : (i : ℕ) → l.from ≤ i → i < l.session → slice_index l.left i ≡ 0;
  same : (rest : List ℕ → List (List ℕ)) → from_session rest l.left l.from ≡ from_session rest l.left l.session;
}
