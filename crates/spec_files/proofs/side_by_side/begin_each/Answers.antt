use Rattle.std.proofs.Common.{[]}
use Rattle.spec_files.proofs.Joining.{BegunSoFar, all_begun, begun_all, begun_first}
use Rattle.spec_files.proofs.side_by_side.begin_each.Goals as goal

pub loop-taken-preserved : goal.loop-taken-preserved
loop-taken-preserved g c =
    begun_first g.L.Lent.gives c.args.lent.now c.loop-taken.coming.items c.push.new.self.items c.begin.result c.args.together
    c.loop-taken.taken.items c.split_off.new.self.items c.in_ok-behind.behind.items c.args.taken.items
    c.loop-taken.invariant c.in_ok-push.ensures.items c.begin.ensures.0 c.begin.ensures.1 c.in_ok-behind.ensures.items c.in_ok-behind.ensures.tail

abbrev all : (g : _) (c : goal.In_ok-push-2 g) → BegunSoFar g.L.Lent.gives c.args.lent.now c.push-2.new.self.items [] c.args.taken.items
all g c = begun_all g.L.Lent.gives c.args.lent.now c.loop-taken.coming.items c.push-2.new.self.items c.run.result c.loop-taken.taken.items c.args.taken.items c.loop-taken.invariant c.in_ok-push-2.ensures.items
    (c.requires.runs.drafts c.loop-taken.taken c.in_ok-room-2.room c.run.result c.run.ensures)

pub returns-clause-drafts : goal.returns-clause-drafts
returns-clause-drafts g c = (all g c).coming

pub returns-clause-entries : goal.returns-clause-entries
returns-clause-entries g c = all_begun g.L.Lent.gives c.args.lent.now c.push-2.new.self.items c.args.taken.items (all g c)
