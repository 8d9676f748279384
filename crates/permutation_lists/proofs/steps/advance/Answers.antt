use Rattle.std.proofs.Common.{◌≡◌, ◌<◌, [], ◌+◌, ◌-◌, ℕ, take, length, get_or, subst, arith, sym, ◌∙◌, ap}
use Rattle.permutation_lists.specs.Inner.Prefixes.{IsLeast, IsNoneLeft, behind}
use Rattle.permutation_lists.proofs.Places.{found_step, none_step}
use Rattle.permutation_lists.proofs.steps.advance.Goals as goal

pub returns-in-Some-clause-found : goal.returns-in-Some-clause-found
returns-in-Some-clause-found c =
    λ _.
    let k = c.loop-place.place - 1 in
    let here : k + 1 ≡ c.loop-place.place = omega (arith, c.loop-place-test.true) in
    let less : k < length c.loop-place.last = omega (arith, here, c.loop-place.invariant.within) in
    let least : IsLeast c.take_back-session.new.left (get_or c.loop-place.last k 0 + 1) c.in-Some.other = subst (λ (x : ℕ). IsLeast c.take_back-session.new.left (x + 1) c.in-Some.other) c.take_back-session.ensures.session c.in-Some.ensures.least in
    c.loop-place.invariant.lists
    ∙ ap (λ (p : ℕ). behind c.args.counts.now (take p c.loop-place.last) (length c.loop-place.last - p) []) (sym here)
    ∙ found_step c.args.counts.now c.loop-place.last c.take_back-session.new.left k c.in-Some.other less c.take_back-session.ensures.at least
    ∙ c.replace.ensures.lists

pub loop-place-preserved : goal.loop-place-preserved
loop-place-preserved c =
    let k = c.loop-place.place - 1 in
    let here : k + 1 ≡ c.loop-place.place = omega (arith, c.loop-place-test.true) in
    let less : k < length c.loop-place.last = omega (arith, here, c.loop-place.invariant.within) in
    let none : IsNoneLeft c.take_back-session.new.left (get_or c.loop-place.last k 0 + 1) = subst (λ (x : ℕ). IsNoneLeft c.take_back-session.new.left (x + 1)) c.take_back-session.ensures.session c.in-None.ensures.least in
    record {
      within = omega arith;
      at = c.take_back-session.ensures.at;
      sum = omega (arith, here, c.take_back-session.ensures.sum, c.loop-place.invariant.sum);
      same = c.loop-place.invariant.same;
      lists = c.loop-place.invariant.lists
          ∙ ap (λ (p : ℕ). behind c.args.counts.now (take p c.loop-place.last) (length c.loop-place.last - p) []) (sym here)
          ∙ none_step c.args.counts.now c.loop-place.last c.take_back-session.new.left k less c.take_back-session.ensures.at none;
    }

pub returns-clause-none : goal.returns-clause-none
returns-clause-none c =
    λ _.
    let over : c.loop-place.place ≡ 0 = omega (arith, c.loop-place-test.false) in
    c.loop-place.invariant.lists ∙ ap (λ (p : ℕ). behind c.args.counts.now (take p c.loop-place.last) (length c.loop-place.last - p) []) over
