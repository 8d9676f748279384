use Rattle.std.proofs.Common.{sym, ◌∙◌, ◌-◌, arith}
use Rattle.std.specs.Prelude.{None}
use Rattle.ordered_slots.proofs.Filled.{popped_none}
use Rattle.ordered_slots.proofs.slots.OrderedSlots.trim.Goals as goal

pub loop-self-preserved : goal.loop-self-preserved
loop-self-preserved g c =
    let slots = c.loop-self.self.slots in
    let is = c.in-Some-None.ensures.item.3 in
    popped_none slots.items c.pop_back.new.self.items c.pop_back.result (slots.len - 1) c.loop-self.self.first
    (c.pop_back.ensures.value None (omega (arith, is.0, slots.ok.0))) (sym c.in-Some-None.field-0-is ∙ is.1 None) c.pop_back.ensures.items
    ∙ c.loop-self.invariant
