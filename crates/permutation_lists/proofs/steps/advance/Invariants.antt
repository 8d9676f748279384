use Rattle.std.proofs.Common.{◌≡◌, ◌≤◌, ◌-◌, ◌+◌, [], take, sum, length}
use Rattle.permutation_lists.specs.Inner.Prefixes.{behind, later, IsAt}
use Rattle.permutation_lists.proofs.steps.advance.Given as goal

abbrev pub invariant-loop-place : goal.invariant-loop-place
invariant-loop-place l = record {
  within : l.place ≤ length l.last;
  at : IsAt l.counts (take l.place l.last) l.left;
  sum : sum l.left + l.place ≡ length l.last;
  same : l.last ≡ l.initial.last;
  lists : later l.counts l.initial.last ≡ behind l.counts (take l.place l.last) (length l.last - l.place) [];
}

abbrev pub decreases-loop-place : goal.decreases-loop-place
decreases-loop-place l = l.place
