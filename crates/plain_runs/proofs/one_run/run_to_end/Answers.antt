use Rattle.std.proofs.Common.{◌≢◌, Some, rules}
use Rattle.session_machine.specs.declared.fault.EngineFault.TheVariants.{Memory}
use Rattle.session_seats.specs.Orders.{IsOrder}
use Rattle.spec_files.specs.Plans.{order_after}
use Rattle.plain_runs.specs.Inner.Next.{IsNextEvent}
use Rattle.plain_runs.specs.Alone.{RefusesNext}
use Rattle.plain_runs.proofs.Going.{goes_on, is_order, refuses_next, smaller}
use Rattle.plain_runs.proofs.one_run.run_to_end.Goals as goal

pub loop-next-preserved : goal.loop-next-preserved
loop-next-preserved c =
    let ordered : IsOrder c.in-Some.event (order_after c.loop-next.plan c.loop-next.engine.history) = search (rules, is_order) in
    let done = c.in_ok-perform.ensures.done in
    goes_on c.args.plan.now c.loop-next.plan c.next_event.new.plan c.args.engine.now c.loop-next.engine c.perform.new.self c.in-Some.event done.0
    c.loop-next.invariant c.in-Ok.ensures.same.0 c.in-Ok.ensures.same.1 c.in-Ok.ensures.follows ordered done.1 c.in_ok-perform.ensures.same

pub returns-in_err-perform-clause-refused : goal.returns-in_err-perform-clause-refused
returns-in_err-perform-clause-refused c =
    let next : IsNextEvent c.loop-next.engine (order_after c.loop-next.plan c.loop-next.engine.history) (Some c.in-Some.event) = search rules in
    let fault = c.in_err-perform.field-0.0 in
    let refused : fault ≢ Memory → RefusesNext (order_after c.args.plan.now) c.args.engine.now.blocks c.args.engine.now.count c.args.engine.now.mode fault =
    λ other. refuses_next c.args.plan.now c.loop-next.plan c.args.engine.now c.loop-next.engine c.perform.new.self c.in-Some.event fault
    c.loop-next.invariant next (c.in_err-perform.ensures.refused other) in
    search rules

pub loop-next-smaller : goal.loop-next-smaller
loop-next-smaller c =
    let next : IsNextEvent c.loop-next.engine (order_after c.loop-next.plan c.loop-next.engine.history) (Some c.in-Some.event) = search rules in
    let done = c.in_ok-perform.ensures.done in
    smaller c.loop-next.plan c.next_event.new.plan c.loop-next.engine c.perform.new.self c.in-Some.event done.0 next c.in-Ok.ensures.same.0 done.1
