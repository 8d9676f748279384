use Rattle.std.proofs.Common.{sym, ◌∙◌, ap, arith}
use Rattle.ordered_slots.specs.Kept.{filled}
use Rattle.ordered_slots.proofs.Filled.{no_slot, only_none, set_same, slot_is, value_before, value_there, with_none, with_slot}
use Rattle.ordered_slots.proofs.slots.OrderedSlots.replace.Goals as goal

pub returns-then-is_some : goal.returns-then-is_some
returns-then-is_some g c =
    let slots = c.args.self.now in
    let is = c.in-Some-get_mut.ensures.item.3 in
    with_slot slots.slots.items slots.first c.in-Some.place c.args.slot c.args.value c.in-Some-get_mut.held.now (omega (arith, c.in-Some.ensures)) (slot_is slots.slots.items c.in-Some.place c.in-Some-get_mut.held.now is.0 is.1) (sym c.if-is_some.ensures)

pub returns-else-is_some : goal.returns-else-is_some
returns-else-is_some g c =
    let slots = c.args.self.now in
    let is = c.in-Some-get_mut.ensures.item.3 in
    ap (filled slots.first) (set_same slots.slots.items c.in-Some.place c.in-Some-get_mut.held.now is.1)
    ∙ sym (with_none (filled slots.first slots.slots.items) c.args.slot c.args.value (value_there slots.slots.items slots.first c.in-Some.place c.args.slot (omega (arith, c.in-Some.ensures))
    ∙ slot_is slots.slots.items c.in-Some.place c.in-Some-get_mut.held.now is.0 is.1 ∙ only_none c.in-Some-get_mut.held.now (sym c.if-is_some.ensures)))

pub returns-in_default-get_mut : goal.returns-in_default-get_mut
returns-in_default-get_mut g c =
    let slots = c.args.self.now in
    sym (with_none (filled slots.first slots.slots.items) c.args.slot c.args.value (value_there slots.slots.items slots.first c.in-Some.place c.args.slot (omega (arith, c.in-Some.ensures)) ∙ no_slot slots.slots.items c.in-Some.place c.in_default-get_mut.ensures.item.3))

pub returns-in_default : goal.returns-in_default
returns-in_default g c =
    let slots = c.args.self.now in
    sym (with_none (filled slots.first slots.slots.items) c.args.slot c.args.value (value_before slots.slots.items slots.first c.args.slot (omega (arith, c.in_default.ensures))))
