use Rattle.std.proofs.Common.{sym, ◌∙◌, ap, subst}
use Rattle.ordered_slots.specs.Kept.{kept, values}
use Rattle.row_locks.specs.declared.held.Held.{Held}
use Rattle.row_locks.specs.Inner.Noting.{AreLocksNoted}
use Rattle.row_locks.proofs.Noting.{taken_back}
use Rattle.row_locks.proofs.lock_table.LockTable.take.Goals as goal

pub invariant_of-self-in-Err : goal.invariant_of-self-in-Err
invariant_of-self-in-Err c =
    let lock : Held = record { row = c.args.row; tx = c.args.tx; strength = c.args.strength } in
    let back = taken_back (kept c.self.inside.locks) (kept c.add.new.self) (kept c.remove.new.self) c.in_ok-slot.slot lock c.in_ok-slot.ensures.ok c.in_ok-slot.ensures.apart c.remove.ensures.rest in
    (c.remove.ensures.apart, subst (λ locks. AreLocksNoted c.note.new.self.by_row c.note.new.self.by_tx locks) (sym back) (c.in-Err.ensures.err (kept c.self.inside.locks) c.self.invariant.1))

pub returns-in-Err-clause-err : goal.returns-in-Err-clause-err
returns-in-Err-clause-err c =
    let lock : Held = record { row = c.args.row; tx = c.args.tx; strength = c.args.strength } in
    let back = taken_back (kept c.self.inside.locks) (kept c.add.new.self) (kept c.remove.new.self) c.in_ok-slot.slot lock c.in_ok-slot.ensures.ok c.in_ok-slot.ensures.apart c.remove.ensures.rest in
    ap (λ locks. values locks) back ∙ c.self.view_is

pub invariant_of-self-in_default : goal.invariant_of-self-in_default
invariant_of-self-in_default c =
    (c.in_ok-slot.ensures.apart, subst (λ locks. AreLocksNoted c.note.new.self.by_row c.note.new.self.by_tx locks) (sym c.in_ok-slot.ensures.ok) (c.in_default.ensures.ok (kept c.self.inside.locks) c.self.invariant.1))
