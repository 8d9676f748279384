use Rattle.std.proofs.Common.{◌≡◌, None, rules, sym, subst}
use Rattle.std.specs.Prelude.{IfSome}
use Rattle.session_seats.specs.Refusals.{IsNextIn, MayMeet}
use Rattle.session_crews.proofs.Next.{is_order, told_first, undone}
use Rattle.session_crews.proofs.Ordering.{goes_on, stays, led_on, led_stays}
use Rattle.session_crews.proofs.shared.Shared.perform.Goals as goal

pub invariant_of-self : goal.invariant_of-self
invariant_of-self g c =
    let orders = g.O.Orderings.orders c.self.inside.place in
    let before = g.E.Engine.engine c.self.inside.engine in
    let after = g.E.Engine.engine c.act-acted.new.engine in
    let next : IsNextIn orders before c.args.event = search rules in
    let none : c.self.inside.fault ≡ None = search rules in (
      goes_on orders c.args.event before after (g.S.SeatAt.seat c.args.seat.now) (g.S.SeatAt.seat c.act-acted.new.self) c.self.inside.order c.self.inside.stop c.self.invariant.0 (is_order orders before c.args.event next) (search rules) (search rules),
      led_on orders (g.D.Drives.order_after c.self.inside.driver) (g.D.Drives.follows c.self.inside.driver) c.args.event before after (g.S.SeatAt.seat c.args.seat.now) (g.S.SeatAt.seat c.act-acted.new.self) c.self.inside.fault
          (g.met.D.Drives.goes_on c.self.inside.driver) c.self.invariant.1 (search rules),
      record { next = λ _. tt; met = subst (λ fault. IfSome fault (MayMeet orders after)) (sym none) tt },
    )

pub invariant_of-self-in-Err : goal.invariant_of-self-in-Err
invariant_of-self-in-Err g c =
    let orders = g.O.Orderings.orders c.self.inside.place in
    let before = g.E.Engine.engine c.self.inside.engine in
    let after = g.E.Engine.engine c.act-acted.new.engine in
    let none : c.self.inside.fault ≡ None = search rules in (
      stays orders c.args.event before after c.in-Err.fault None c.self.inside.stop (record { ordered = c.self.invariant.0.ordered; given = tt; stopped = c.self.invariant.0.stopped }) c.in-Err.ensures.err,
      led_stays orders (g.D.Drives.order_after c.self.inside.driver) (g.D.Drives.follows c.self.inside.driver) c.args.event before after c.in-Err.fault c.self.inside.fault c.self.invariant.1 c.in-Err.ensures.err,
      record { next = λ _. tt; met = subst (λ fault. IfSome fault (MayMeet orders after)) (sym none) tt },
    )

pub note-requires-in-Err : goal.note-requires-in-Err
note-requires-in-Err g c =
    let orders = g.O.Orderings.orders c.self.inside.place in
    let before = g.E.Engine.engine c.self.inside.engine in
    let after = g.E.Engine.engine c.act-acted.new.engine in
    let next : IsNextIn orders before c.args.event = search rules in
    undone orders c.args.event before after c.in-Err.fault c.self.invariant.0.ordered next c.in-Err.ensures.err

pub returns-in-Err-clause-told : goal.returns-in-Err-clause-told
returns-in-Err-clause-told g c = λ hand.
    let none : c.self.inside.fault ≡ None = search rules in
    told_first c.args.event (g.E.Engine.engine c.self.inside.engine) (g.E.Engine.engine c.act-acted.new.engine) c.args.self.now.engine c.note-in-Err.new.self.engine c.self.inside.fault c.note-in-Err.new.self.fault c.in-Err.fault
    (search rules) (search rules) none (search rules) c.in-Err.ensures.err
