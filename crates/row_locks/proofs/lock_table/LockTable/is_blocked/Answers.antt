use Rattle.std.proofs.Common.{◌≡◌, refl, sym, ◌∙◌, ap, subst, [], true, false, not}
use Rattle.row_versions.specs.Members.{is_none_of}
use Rattle.ordered_slots.specs.Kept.{kept}
use Rattle.row_locks.specs.Held.{holders_against}
use Rattle.row_locks.proofs.Against.{next_seen, none_blocks, none_is, some_is}
use Rattle.row_locks.proofs.lock_table.LockTable.is_blocked.Goals as goal

pub returns-then-is_some : goal.returns-then-is_some
returns-then-is_some c =
    let next = next_seen (kept c.self.inside.locks) c.of_row-slot-items.result.now c.loop-slot.slot-index _ c.args.row c.args.tx c.args.strength [] [] c.blocker_at.result c.self.invariant.0 (c.of_row-slot-items.ensures ∙ c.self.invariant.1.rows c.args.row.0) c.loop-slot-test.true c.loop-slot.invariant refl c.blocker_at.ensures in
    let some = some_is c.blocker_at.result (sym c.is_some.ensures ∙ c.if-is_some.true) in
    sym (ap (λ b. not b) (subst (λ held. is_none_of (holders_against held c.args.row c.args.tx c.args.strength) ≡ false) c.self.view_is (next.somebody some.0 some.1)))

pub loop-slot-preserved : goal.loop-slot-preserved
loop-slot-preserved c =
    let next = next_seen (kept c.self.inside.locks) c.of_row-slot-items.result.now c.loop-slot.slot-index _ c.args.row c.args.tx c.args.strength [] [] c.blocker_at.result c.self.invariant.0 (c.of_row-slot-items.ensures ∙ c.self.invariant.1.rows c.args.row.0) c.loop-slot-test.true c.loop-slot.invariant refl c.blocker_at.ensures in
    next.same (none_is c.blocker_at.result (sym c.is_some.ensures ∙ c.if-is_some.false))

pub returns : goal.returns
returns c = sym (ap (λ b. not b) (subst (λ held. is_none_of (holders_against held c.args.row c.args.tx c.args.strength) ≡ true) c.self.view_is (none_blocks (kept c.self.inside.locks) c.of_row-slot-items.result.now c.loop-slot.slot-index c.args.row c.args.tx c.args.strength (c.of_row-slot-items.ensures ∙ c.self.invariant.1.rows c.args.row.0) c.loop-slot.invariant c.loop-slot-test.false)))
