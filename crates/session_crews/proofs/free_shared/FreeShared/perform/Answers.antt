use Rattle.std.proofs.Common.{◌≡◌, ◌∙◌, Bool, sym, ap, subst, rules, arith}
use Rattle.std.proofs.lemmas.Grind.{common_steps}
use Rattle.std.proofs.lemmas.Option.{gets}
use Rattle.session_seats.specs.Free.{block_state, is_over}
use Rattle.session_crews.specs.Inner.FreeRuns.{FreeSharedOf, IsNextOf, ProgressOf, left_after}
use Rattle.session_crews.proofs.Going.{over_acted}
use Rattle.session_crews.proofs.Scripts.{done_on}
use Rattle.session_crews.proofs.free_shared.FreeShared.perform.Goals as goal

pub invariant_of-self : goal.invariant_of-self
invariant_of-self g c =
    let engine = g.E.Engine.engine c.self.inside.engine in
    let after = g.E.Engine.engine c.act.new.engine in
    let held = g.S.SeatAt.seat c.args.seat.now in
    let kept = g.S.SeatAt.seat c.act.new.self in
    let a = c.in-Ok.ensures.ok in
    let is = subst (λ (s : FreeSharedOf). IsNextOf s.progress c.session-session.result c.args.event) (sym c.self.view_is) (c.is_due.ensures.is (search rules)) in
    let over : c.is_over.result ≡ a.reply.ended =
    c.is_over.ensures ∙ (ap is_over c.block_state.ensures ∙ (ap (λ last. is_over (block_state last)) c.last.ensures ∙ over_acted c.args.event engine after held kept a)) in
    let at : c.index_mut.result.now ≡ is.at = grind (arith, common_steps, gets, c.index_mut.ensures.value, is.there, is.is) in
    let make : ProgressOf → Bool → ProgressOf = λ p over. record { session = p.session; over = over; events = left_after p.over p.events } in
    done_on g.P.Scripting.start engine after g.P.Scripting.scripts c.self.inside.progress.items c.self.inside.fault c.session-session.result c.args.event held kept c.advance.new.self
    c.self.invariant is (c.requires ∙ sym c.session-session.ensures) a
    (c.advance.ensures ∙ (ap (λ (p : ProgressOf). make p c.is_over.result) at ∙ ap (make is.at) over))
