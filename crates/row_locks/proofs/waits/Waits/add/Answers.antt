use Rattle.std.proofs.Common.{sym, ◌∙◌, ap, subst}
use Rattle.ordered_slots.specs.Kept.{kept, values}
use Rattle.row_locks.specs.Waiting.{Waiting}
use Rattle.row_locks.specs.Inner.Noting.{AreNoted}
use Rattle.row_locks.proofs.Noting.{noted_more, taken_back}
use Rattle.row_locks.proofs.waits.Waits.add.Goals as goal

pub invariant_of-self-in-Err : goal.invariant_of-self-in-Err
invariant_of-self-in-Err c =
    let wait : Waiting = record { tx = c.args.tx; blockers = c.args.blockers.items } in
    let back = taken_back (kept c.self.inside.waits) (kept c.add.new.self) (kept c.remove.new.self) c.in_ok-slot.slot wait c.in_ok-slot.ensures.ok c.in_ok-slot.ensures.apart c.remove.ensures.rest in
    (c.remove.ensures.apart, subst (λ waits. AreNoted (λ (w : Waiting). w.tx.0) c.add-2.new.self waits) (sym back) (λ n. c.in-Err.ensures.err n ∙ c.self.invariant.1 n))

pub returns-in-Err-clause-err : goal.returns-in-Err-clause-err
returns-in-Err-clause-err c =
    let wait : Waiting = record { tx = c.args.tx; blockers = c.args.blockers.items } in
    let back = taken_back (kept c.self.inside.waits) (kept c.add.new.self) (kept c.remove.new.self) c.in_ok-slot.slot wait c.in_ok-slot.ensures.ok c.in_ok-slot.ensures.apart c.remove.ensures.rest in
    ap (λ waits. values waits) back ∙ c.self.view_is

pub invariant_of-self-in_default : goal.invariant_of-self-in_default
invariant_of-self-in_default c =
    let wait : Waiting = record { tx = c.args.tx; blockers = c.args.blockers.items } in
    (c.in_ok-slot.ensures.apart, subst (λ waits. AreNoted (λ (w : Waiting). w.tx.0) c.add-2.new.self waits) (sym c.in_ok-slot.ensures.ok) (noted_more (λ (w : Waiting). w.tx.0) c.self.inside.by_tx c.add-2.new.self (kept c.self.inside.waits) c.in_ok-slot.slot wait c.self.invariant.1 c.in_default.ensures.ok c.add-2.ensures.others))
