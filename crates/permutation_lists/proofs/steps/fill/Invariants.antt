use Rattle.std.proofs.Common.{◌≡◌, ◌-◌, ◌+◌, take, sum, length}
use Rattle.permutation_lists.specs.Interleavings.{of_length}
use Rattle.permutation_lists.specs.Inner.Prefixes.{IsUsedUp, behind, IsAt}
use Rattle.permutation_lists.proofs.steps.fill.Given as goal

abbrev pub invariant-loop-place : goal.invariant-loop-place
invariant-loop-place l = record {
  used : IsUsedUp l.left l.session;
  at : IsAt l.counts (take l.place l.last) l.left;
  sum : sum l.left + l.place ≡ length l.last;
  lists : behind l.counts (take l.place l.last) (length l.last - l.place) (of_length (length l.last - l.place) l.left)
      ≡ behind l.counts (take l.from l.initial.last) (length l.initial.last - l.from) (of_length (length l.initial.last - l.from) l.initial.left);
}
