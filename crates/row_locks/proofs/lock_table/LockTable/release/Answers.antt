use Rattle.std.proofs.Common.{◌∙◌, ap, arith}
use Rattle.ordered_slots.specs.Kept.{kept}
use Rattle.row_locks.specs.Held.{holds}
use Rattle.row_locks.proofs.Holding.{released}
use Rattle.row_locks.proofs.Releasing.{all_released, never_none, one_lock_less}
use Rattle.row_locks.proofs.lock_table.LockTable.release.Goals as goal

pub loop-slot-preserved-in-Some-remove : goal.loop-slot-preserved-in-Some-remove
loop-slot-preserved-in-Some-remove c = (one_lock_less c.args.self.now c.args.tx (kept c.loop-slot.self-inside.locks) (kept c.remove.new.self) c.loop-slot.self-inside.places.by_row c.loop-slot.self-inside.places.by_tx c.strike.new.self.by_row c.strike.new.self.by_tx c.in-Some.slot c.remove.result c.in-Some-remove.lock c.loop-slot.invariant c.in-Some.ensures.some c.remove.ensures.value c.remove.ensures.rest c.remove.ensures.apart c.in-Some-remove.is c.strike.ensures).releases

pub loop-slot-smaller-in-Some-remove : goal.loop-slot-smaller-in-Some-remove
loop-slot-smaller-in-Some-remove c =
    let fewer = (one_lock_less c.args.self.now c.args.tx (kept c.loop-slot.self-inside.locks) (kept c.remove.new.self) c.loop-slot.self-inside.places.by_row c.loop-slot.self-inside.places.by_tx c.strike.new.self.by_row c.strike.new.self.by_tx c.in-Some.slot c.remove.result c.in-Some-remove.lock c.loop-slot.invariant c.in-Some.ensures.some c.remove.ensures.value c.remove.ensures.rest c.remove.ensures.apart c.in-Some-remove.is c.strike.ensures).fewer in
    omega arith

pub loop-slot-preserved : goal.loop-slot-preserved
loop-slot-preserved c = never_none c.args.self.now c.args.tx (kept c.loop-slot.self-inside.locks) c.loop-slot.self-inside.places.by_row c.loop-slot.self-inside.places.by_tx c.in-Some.slot c.remove.result c.loop-slot.invariant c.in-Some.ensures.some c.remove.ensures.value c.in_default-remove.is

pub loop-slot-smaller : goal.loop-slot-smaller
loop-slot-smaller c = never_none c.args.self.now c.args.tx (kept c.loop-slot.self-inside.locks) c.loop-slot.self-inside.places.by_row c.loop-slot.self-inside.places.by_tx c.in-Some.slot c.remove.result c.loop-slot.invariant c.in-Some.ensures.some c.remove.ensures.value c.in_default-remove.is

pub returns-clause-held : goal.returns-clause-held
returns-clause-held c = λ h. ap (λ held. holds held h) (all_released c.args.self.now c.args.tx (kept c.loop-slot.self-inside.locks) c.loop-slot.self-inside.places.by_row c.loop-slot.self-inside.places.by_tx c.loop-slot.invariant c.in_default.ensures.none) ∙ released c.args.self.now c.args.tx h

pub returns-clause-same : goal.returns-clause-same
returns-clause-same c = all_released c.args.self.now c.args.tx (kept c.loop-slot.self-inside.locks) c.loop-slot.self-inside.places.by_row c.loop-slot.self-inside.places.by_tx c.loop-slot.invariant c.in_default.ensures.none
