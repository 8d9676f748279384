use Rattle.std.proofs.Common.{arith, List, subst}
use Rattle.std.proofs.lemmas.List.{length-map}
use Rattle.outcome_counts.specs.declared.counted.Group.{Group}
use Rattle.outcome_counts.specs.Code.Adding.{IsAt, IsNew, known, new, outcomes_in}
use Rattle.outcome_counts.proofs.counted.Counted.add.Goals as goal

pub add_known-requires-clause-within : goal.add_known-requires-clause-within
add_known-requires-clause-within c =
    let at = subst (λ (gs : List Group). IsAt (outcomes_in gs) c.args.outcome c.in-Some.k) c.as_slice.ensures.value c.in-Some.ensures in
    let long = length-map c.args.self.now.groups.items (λ (g : Group). g.outcome) in
    omega (arith, at.0, long)

pub returns-in_ok-add_known-in-Some : goal.returns-in_ok-add_known-in-Some
returns-in_ok-add_known-in-Some c =
    let done = c.in_ok-add_known-in-Some.ensures in
    known c.in-Some.k (subst (λ (gs : List Group). IsAt (outcomes_in gs) c.args.outcome c.in-Some.k) c.as_slice.ensures.value c.in-Some.ensures)
    done.outcomes done.counts done.others.0 done.others.1

pub returns-in_ok-add_new-in-None : goal.returns-in_ok-add_new-in-None
returns-in_ok-add_new-in-None c =
    let done = c.in_ok-add_new-in-None.ensures in
    new (subst (λ (gs : List Group). IsNew (outcomes_in gs) c.args.outcome) c.as_slice.ensures.value c.in-None.ensures) done.outcomes done.counts done.others.0 done.others.1
