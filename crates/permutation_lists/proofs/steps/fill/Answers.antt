use Rattle.std.proofs.Common.{◌≡◌, ◌+◌, ◌-◌, ◌<◌, ◌≤◌, ◌∷◌, ◌++◌, [], sym, ◌∙◌, arith, length, take, set, sum, length-set}
use Rattle.std.proofs.lemmas.List.{take_more_set}
use Rattle.std.proofs.lemmas.List.{take_all}
use Rattle.permutation_lists.specs.Interleavings.{without}
use Rattle.permutation_lists.proofs.Places.{at_push, fill_step, sum_less, still_used_up}
use Rattle.permutation_lists.proofs.Behind.{at_end}
use Rattle.permutation_lists.proofs.steps.fill.Goals as goal

pub loop-place-preserved : goal.loop-place-preserved
loop-place-preserved c =
    let p = c.loop-place.place in
    let y = c.least-session.result in
    let last = c.loop-place.last in
    let left = c.loop-place.left in
    let n = length last in
    let counts = c.args.counts.now in
    let less : p < n = omega (arith, c.loop-place-test.true, c.loop-place.auto.last) in
    let taken : take (p + 1) (set last p y) ≡ take p last ++ y ∷ [] = take_more_set last p y less in
    let long : length (set last p y) ≡ n = length-set last p y in
    let fewer : sum (without left y) + 1 ≡ sum left = sum_less left y c.least-session.ensures.least.1 c.least-session.ensures.least.2 in
    let turns : n - p ≡ (n - (p + 1)) + 1 = omega arith in
    record {
      used = still_used_up left y c.least-session.ensures.below;
      at = rw taken (at_push counts (take p last) left 0 y c.loop-place.invariant.at c.least-session.ensures.least);
      sum = omega (arith, fewer, long, c.loop-place.invariant.sum);
      lists = rw (taken, long) (fill_step counts (take p last) left y (n - (p + 1)) (n - p) turns c.loop-place.invariant.at c.least-session.ensures.least ∙ c.loop-place.invariant.lists);
    }

pub returns-clause-lists : goal.returns-clause-lists
returns-clause-lists c =
    let p = c.loop-place.place in
    let last = c.loop-place.last in
    let over : length last ≤ p = omega (arith, c.loop-place-test.false, c.loop-place.auto.last) in
    let all : take p last ≡ last = take_all p last over in
    let none : length last - p ≡ 0 = omega arith in
    sym c.loop-place.invariant.lists ∙ rw (all, none) (at_end c.args.counts.now last)
