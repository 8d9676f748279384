use Rattle.std.proofs.Common.{rules, ◌-◌}
use Rattle.places.proofs.Striking.{struck_at, nothing_struck}
use Rattle.places.proofs.last.last_of.Goals as goal

pub returns-then-places-index-clause-struck : goal.returns-then-places-index-clause-struck
returns-then-places-index-clause-struck c = struck_at c.args.place c.args.places.now (c.loop-index.index - 1) (search rules) (search rules) (search rules)

pub returns-clause-struck : goal.returns-clause-struck
returns-clause-struck c = nothing_struck c.args.place c.args.places.now (search rules)
