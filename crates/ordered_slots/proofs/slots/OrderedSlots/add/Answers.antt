use Rattle.std.proofs.Common.{◌≡◌, ◌∙◌, ◌+◌, ◌∷◌, ◌++◌, [], ap, length, rules}
use Rattle.ordered_slots.specs.Kept.{filled}
use Rattle.ordered_slots.proofs.Filled.{filled_apart, filled_more}
use Rattle.ordered_slots.proofs.slots.OrderedSlots.add.Goals as goal

pub returns-clause-ok : goal.returns-clause-ok
returns-clause-ok g c =
    let old = c.args.self.now in
    let slot : old.first + length old.slots.items ≡ c.in_ok-slot.slot = search rules in
    ap (filled old.first) c.in_ok-push_back.ensures.items
    ∙ filled_more old.slots.items old.first c.args.value
    ∙ ap (λ s. filled old.first old.slots.items ++ (s, c.args.value) ∷ []) slot

pub returns-clause-apart : goal.returns-clause-apart
returns-clause-apart g c = filled_apart c.push_back.new.self.items c.args.self.now.first
