use Rattle.std.proofs.Common.{◌≡◌, ◌++◌, ◌∷◌, [], ◌+◌, take, set}
use Rattle.std.proofs.lemmas.List.{take_more_set}
use Rattle.permutation_lists.proofs.Places.{at_push}
use Rattle.permutation_lists.proofs.steps.replace.Goals as goal

pub fill-requires-clause-at : goal.fill-requires-clause-at
fill-requires-clause-at c =
    let taken : take (c.args.place + 1) (set c.args.last.now c.args.place c.args.other) ≡ take c.args.place c.args.last.now ++ c.args.other ∷ [] = take_more_set c.args.last.now c.args.place c.args.other c.requires.within in
    rw taken (at_push c.args.counts.now (take c.args.place c.args.last.now) c.args.left.now c.args.from c.args.other c.requires.at c.requires.least)
