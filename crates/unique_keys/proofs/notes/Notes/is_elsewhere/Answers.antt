use Rattle.std.proofs.Common.{◌≡◌, sym, ◌∙◌, subst, false, ◌==◌, ◌-◌, get_or, drop, arith}
use Rattle.std.specs.List.{list_any}
use Rattle.unique_keys.specs.declared.noted.Noted.{Noted}
use Rattle.unique_keys.specs.Inner.Slots.{at, passes}
use Rattle.unique_keys.proofs.Slots.{not_false}
use Rattle.unique_keys.proofs.Places.{any_of_row, one_of_table, none_of_row}
use Rattle.unique_keys.proofs.notes.Notes.is_elsewhere.Goals as goal

pub returns-then-is_of_row : goal.returns-then-is_of_row
returns-then-is_of_row c = λ h mixed.
    one_of_table c.args.self.now c.args.table c.args.row (get_or c.at-places.result.now (c.loop-index.index - 1) 0) c.requires (sym c.is_of_row.ensures ∙ c.if-is_of_row.true)
    (sym c.is_of_table_at.ensures ∙ not_false c.is_of_table_at.result h) mixed

pub returns : goal.returns
returns c = λ h mixed.
    let test = λ (w : Noted). w.row.0 == c.args.row.0 in
    let end : c.loop-index.index ≡ 0 = omega arith in
    none_of_row c.args.self.now c.args.table c.args.row
    (sym (any_of_row c.args.self.now c.args.row test c.at-places.result.now false c.requires (λ w k. k) c.at-places.ensures
    (sym (subst (λ n. list_any (λ p. passes test (at c.args.self.now.slots.items p)) (drop n c.at-places.result.now) ≡ false) end c.loop-index.invariant))))
