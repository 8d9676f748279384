use Rattle.std.proofs.Common.{sym, ◌∙◌, ap, set, arith}
use Rattle.ordered_slots.specs.Kept.{filled}
use Rattle.ordered_slots.proofs.Filled.{filled_apart, no_slot, slot_is, value_before, value_there, without_none, without_there}
use Rattle.ordered_slots.proofs.slots.OrderedSlots.remove.Goals as goal

pub returns-in_err-place-clause-value : goal.returns-in_err-place-clause-value
returns-in_err-place-clause-value g c =
    let slots = c.args.self.now in
    c.from_residual.ensures ∙ sym (value_before slots.slots.items slots.first c.args.slot (omega (arith, c.in_err-place.ensures)))

pub returns-in_err-place-clause-rest : goal.returns-in_err-place-clause-rest
returns-in_err-place-clause-rest g c =
    let slots = c.args.self.now in
    sym (without_none (filled slots.first slots.slots.items) c.args.slot (value_before slots.slots.items slots.first c.args.slot (omega (arith, c.in_err-place.ensures))))

pub returns-in_err-place-clause-apart : goal.returns-in_err-place-clause-apart
returns-in_err-place-clause-apart g c = filled_apart c.args.self.now.slots.items c.args.self.now.first

pub returns-in_err-get_mut-clause-value : goal.returns-in_err-get_mut-clause-value
returns-in_err-get_mut-clause-value g c =
    let slots = c.args.self.now in
    c.from_residual-in_err-get_mut.ensures
    ∙ sym (value_there slots.slots.items slots.first c.in_ok-place.place c.args.slot (omega (arith, c.in_ok-place.ensures)) ∙ no_slot slots.slots.items c.in_ok-place.place c.in_err-get_mut.ensures.item.3)

pub returns-in_err-get_mut-clause-rest : goal.returns-in_err-get_mut-clause-rest
returns-in_err-get_mut-clause-rest g c =
    let slots = c.args.self.now in
    sym (without_none (filled slots.first slots.slots.items) c.args.slot (value_there slots.slots.items slots.first c.in_ok-place.place c.args.slot (omega (arith, c.in_ok-place.ensures)) ∙ no_slot slots.slots.items c.in_ok-place.place c.in_err-get_mut.ensures.item.3))

pub returns-in_err-get_mut-clause-apart : goal.returns-in_err-get_mut-clause-apart
returns-in_err-get_mut-clause-apart g c = filled_apart c.args.self.now.slots.items c.args.self.now.first

pub returns-clause-value : goal.returns-clause-value
returns-clause-value g c =
    let slots = c.args.self.now in
    let is = c.in_ok-get_mut.ensures.item.3 in
    c.take-value.ensures.value
    ∙ sym (value_there slots.slots.items slots.first c.in_ok-place.place c.args.slot (omega (arith, c.in_ok-place.ensures)) ∙ slot_is slots.slots.items c.in_ok-place.place c.in_ok-get_mut.field-0.now is.0 is.1)

pub returns-clause-rest : goal.returns-clause-rest
returns-clause-rest g c =
    let slots = c.args.self.now in
    c.trim.ensures
    ∙ ap (λ slot. filled slots.first (set slots.slots.items c.in_ok-place.place slot)) c.take-value.ensures.after
    ∙ without_there slots.slots.items slots.first c.in_ok-place.place c.args.slot (omega (arith, c.in_ok-place.ensures))

pub returns-clause-apart : goal.returns-clause-apart
returns-clause-apart g c = filled_apart c.trim.new.self.slots.items c.trim.new.self.first
