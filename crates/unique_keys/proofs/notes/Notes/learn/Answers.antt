use Rattle.std.proofs.Common.{◌≡◌, refl, sym, ◌∙◌, ap, false, ◌==◌, length}
use Rattle.std.specs.List.{list_any}
use Rattle.unique_keys.specs.declared.noted.Noted.{Noted}
use Rattle.unique_keys.specs.Inner.Slots.{kept, passes}
use Rattle.unique_keys.proofs.Slots.{any_slots}
use Rattle.unique_keys.proofs.Places.{grown_keeps, grown_same, learnt_keeps}
use Rattle.unique_keys.proofs.notes.Notes.learn.Goals as goal

pub returns-in_err-push-clause-well : goal.returns-in_err-push-clause-well
returns-in_err-push-clause-well c =
    grown_keeps c.args.self.now _ (length c.args.self.now.slots.items) refl c.requires refl c.in_err-push.ensures.items (λ h. h) c.requires.rows (λ n. grown_same _ _ _ refl) (λ n. grown_same _ _ _ refl) (λ row code h. h) c.requires.once

pub returns-clause-well : goal.returns-clause-well
returns-clause-well c =
    let test = λ (w : Noted). w.table.0 == c.args.table.0 in
    let none : list_any test (kept c.args.self.now.slots.items) ≡ false =
    sym (any_slots test c.args.self.now.slots.items) ∙ ap (list_any (passes test)) (sym c.deref-else-is_known.ensures.value) ∙ sym c.has_table.ensures ∙ c.if-has_table.false in
    learnt_keeps c.args.self.now _ _ c.requires none refl c.in_ok-push.ensures.items refl refl refl refl refl
