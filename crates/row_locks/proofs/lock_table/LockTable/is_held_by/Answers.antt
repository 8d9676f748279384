use Rattle.std.proofs.Common.{◌≡◌, sym, ◌∙◌, subst, true, false}
use Rattle.row_versions.specs.Members.{has}
use Rattle.ordered_slots.specs.Kept.{kept}
use Rattle.row_locks.specs.Held.{holders_against}
use Rattle.row_locks.proofs.Against.{next_holder, not_held}
use Rattle.row_locks.proofs.lock_table.LockTable.is_held_by.Goals as goal

pub returns-then-is_held_at : goal.returns-then-is_held_at
returns-then-is_held_at c =
    let next = next_holder (kept c.self.inside.locks) c.of_row-slot-items.result.now c.loop-slot.slot-index _ c.args.row c.args.tx c.args.strength c.args.holder c.is_held_at.result c.self.invariant.0 (c.of_row-slot-items.ensures ∙ c.self.invariant.1.rows c.args.row.0) c.loop-slot-test.true c.loop-slot.invariant c.is_held_at.ensures in
    sym (subst (λ held. has (holders_against held c.args.row c.args.tx c.args.strength) c.args.holder ≡ true) c.self.view_is (next.found c.if-is_held_at.true))

pub loop-slot-preserved : goal.loop-slot-preserved
loop-slot-preserved c =
    let next = next_holder (kept c.self.inside.locks) c.of_row-slot-items.result.now c.loop-slot.slot-index _ c.args.row c.args.tx c.args.strength c.args.holder c.is_held_at.result c.self.invariant.0 (c.of_row-slot-items.ensures ∙ c.self.invariant.1.rows c.args.row.0) c.loop-slot-test.true c.loop-slot.invariant c.is_held_at.ensures in
    next.same c.if-is_held_at.false

pub returns : goal.returns
returns c = sym (subst (λ held. has (holders_against held c.args.row c.args.tx c.args.strength) c.args.holder ≡ false) c.self.view_is (not_held (kept c.self.inside.locks) c.of_row-slot-items.result.now c.loop-slot.slot-index c.args.row c.args.tx c.args.strength c.args.holder (c.of_row-slot-items.ensures ∙ c.self.invariant.1.rows c.args.row.0) c.loop-slot.invariant c.loop-slot-test.false))
