use Rattle.std.proofs.Common.{arith}
use Rattle.permutation_lists.proofs.Places.{none_of_all, least_of_all, used_up_to}
use Rattle.permutation_lists.proofs.steps.least.Goals as goal

pub unreachable-requires : goal.unreachable-requires
unreachable-requires c = let none = none_of_all c.args.left.now c.args.from c.requires.below c.in-None.ensures.least in omega (arith, none, c.requires.some)

pub returns-clause-least : goal.returns-clause-least
returns-clause-least c = least_of_all c.args.left.now c.args.from c.in-Some.session c.requires.below c.in-Some.ensures.least

pub returns-clause-below : goal.returns-clause-below
returns-clause-below c = used_up_to c.args.left.now c.args.from c.in-Some.session c.requires.below c.in-Some.ensures.between
