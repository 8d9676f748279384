use Rattle.std.proofs.Common.{sym, ◌∙◌, ap}
use Rattle.ordered_slots.specs.Kept.{kept}
use Rattle.row_locks.specs.Waiting.{with_blockers}
use Rattle.row_locks.proofs.Renewing.{is_set, none_set}
use Rattle.row_locks.proofs.waits.Waits.set_blockers.Goals as goal

pub invariant_of-self : goal.invariant_of-self
invariant_of-self c =
    let s = is_set (kept c.self.inside.waits) (kept c.replace.new.self) c.self.inside.by_tx c.args.tx c.args.blockers.items c.in-Some.slot c.self.invariant.0 c.self.invariant.1 c.in-Some.ensures c.replace.ensures in
    (s.apart, s.noted)

pub returns-in-Some-clause-ok : goal.returns-in-Some-clause-ok
returns-in-Some-clause-ok c = (is_set (kept c.self.inside.waits) (kept c.replace.new.self) c.self.inside.by_tx c.args.tx c.args.blockers.items c.in-Some.slot c.self.invariant.0 c.self.invariant.1 c.in-Some.ensures c.replace.ensures).set ∙ ap (λ waits. with_blockers c.args.tx c.args.blockers.items waits) c.self.view_is

pub returns-in_default-clause-ok : goal.returns-in_default-clause-ok
returns-in_default-clause-ok c = sym c.self.view_is ∙ none_set (kept c.self.inside.waits) c.self.inside.by_tx c.args.tx c.args.blockers.items c.self.invariant.1 (sym c.first_place.ensures ∙ c.in_default.is) ∙ ap (λ waits. with_blockers c.args.tx c.args.blockers.items waits) c.self.view_is
