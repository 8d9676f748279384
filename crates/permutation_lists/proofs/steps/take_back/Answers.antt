use Rattle.std.proofs.Common.{◌<◌, ◌++◌, ◌∷◌, [], ◌+◌, List, ℕ, take, length, get_or, subst, arith}
use Rattle.std.proofs.lemmas.List.{take_more}
use Rattle.permutation_lists.specs.Inner.Prefixes.{IsAt}
use Rattle.permutation_lists.proofs.Places.{back, give_back}
use Rattle.permutation_lists.proofs.steps.take_back.Goals as goal

at_last : (counts last left : List ℕ) (k : ℕ) → k < length last → IsAt counts (take (k + 1) last) left → IsAt counts (take k last ++ get_or last k 0 ∷ []) left
at_last counts last left k h at = subst (λ (p : List ℕ). IsAt counts p left) (take_more last k 0 h) at

pub turn_back-requires-clause-within : goal.turn_back-requires-clause-within
turn_back-requires-clause-within c =
    (back c.args.counts.now (take c.args.place c.args.last.now) c.args.left.now (get_or c.args.last.now c.args.place 0) (at_last _ _ _ _ c.requires.within c.requires.at)).inside

pub turn_back-requires-clause-fits : goal.turn_back-requires-clause-fits
turn_back-requires-clause-fits c =
    let x = get_or c.args.last.now c.args.place 0 in
    let b = back c.args.counts.now (take c.args.place c.args.last.now) c.args.left.now x (at_last _ _ _ _ c.requires.within c.requires.at) in
    let fits = (c.type_inv.counts x).fits in
    omega (arith, b.small, fits)

pub returns-clause-inside : goal.returns-clause-inside
returns-clause-inside c =
    let x = get_or c.args.last.now c.args.place 0 in
    let b = back c.args.counts.now (take c.args.place c.args.last.now) c.args.left.now x (at_last _ _ _ _ c.requires.within c.requires.at) in
    omega (arith, b.inside, c.turn_back.auto.left)

pub returns-clause-at : goal.returns-clause-at
returns-clause-at c =
    rw c.turn_back.ensures (give_back c.args.counts.now (take c.args.place c.args.last.now) c.args.left.now (get_or c.args.last.now c.args.place 0) (at_last _ _ _ _ c.requires.within c.requires.at))

pub returns-clause-sum : goal.returns-clause-sum
returns-clause-sum c =
    rw c.turn_back.ensures ((back c.args.counts.now (take c.args.place c.args.last.now) c.args.left.now (get_or c.args.last.now c.args.place 0) (at_last _ _ _ _ c.requires.within c.requires.at)).sum)
