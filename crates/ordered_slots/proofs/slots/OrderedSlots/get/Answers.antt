use Rattle.std.proofs.Common.{sym, ◌∙◌, ap, arith}
use Rattle.std.specs.Prelude.{option_copied}
use Rattle.ordered_slots.proofs.Filled.{no_slot, slot_is, value_before, value_there}
use Rattle.ordered_slots.proofs.slots.OrderedSlots.get.Goals as goal

pub returns-in_err-place : goal.returns-in_err-place
returns-in_err-place g c =
    let slots = c.args.self.now in
    ap option_copied c.from_residual.ensures ∙ sym (value_before slots.slots.items slots.first c.args.slot (omega (arith, c.in_err-place.ensures)))

pub returns-in_err-get : goal.returns-in_err-get
returns-in_err-get g c =
    let slots = c.args.self.now in
    ap option_copied c.from_residual-in_err-get.ensures
    ∙ sym (value_there slots.slots.items slots.first c.in_ok-place.place c.args.slot (omega (arith, c.in_ok-place.ensures)) ∙ no_slot slots.slots.items c.in_ok-place.place c.in_err-get.ensures.item.3)

pub returns : goal.returns
returns g c =
    let slots = c.args.self.now in
    let is = c.in_ok-get.ensures.item.3 in
    c.as_ref.ensures.value
    ∙ sym (value_there slots.slots.items slots.first c.in_ok-place.place c.args.slot (omega (arith, c.in_ok-place.ensures)) ∙ slot_is slots.slots.items c.in_ok-place.place c.in_ok-get.field-0.now is.0 is.1)
