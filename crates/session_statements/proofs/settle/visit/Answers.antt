use Rattle.std.proofs.Common.{◌≡◌, subst}
use Rattle.std.specs.Prelude.{IfOk}
use Rattle.session_machine.specs.Inner.Statements.{Visit}
use Rattle.session_statements.specs.Inner.Acting.{visit_of}
use Rattle.session_statements.proofs.Keeping.{newest_fits}
use Rattle.session_statements.proofs.Visiting.{can_take, settled_at_work, visited}
use Rattle.session_statements.proofs.settle.visit.Goals as goal

pub settle_target-requires-clause-fits : goal.settle_target-requires-clause-fits
settle_target-requires-clause-fits g c = newest_fits c.args.db.now c.args.work.now c.args.seen.now.row c.args.work.now.t.tx c.requires.work.running.orderly c.requires.its

pub at_outcome-requires-clause-work : goal.at_outcome-requires-clause-work
at_outcome-requires-clause-work g c = settled_at_work c.args.db.now _ c.args.work.now c.args.act.now c.in_ok-strength.strength c.args.seen.now c.in_ok-settled.ensures.locks c.requires.work

pub at_outcome-requires-clause-takes : goal.at_outcome-requires-clause-takes
at_outcome-requires-clause-takes g c =
    can_take c.args.db.now _ c.args.work.now c.args.act.now c.in_ok-strength.strength c.args.seen.now _ c.requires.work c.requires.its
    c.in_ok-settled.ensures.locks c.in_ok-settled.ensures.outcome

pub returns : goal.returns
returns g c =
    subst (λ (x : Visit). IfOk c.at_outcome.result (λ v. x ≡ visit_of c.at_outcome.new.db v))
    (visited c.args.db.now _ c.args.work.now c.args.act.now c.in_ok-strength.strength c.args.seen.now _ c.in_ok-strength.ensures
    c.in_ok-settled.ensures.locks c.in_ok-settled.ensures.outcome) c.at_outcome.ensures
