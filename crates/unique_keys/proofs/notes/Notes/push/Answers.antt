use Rattle.std.proofs.Common.{◌≡◌, refl, sym, ◌∙◌, ap, subst, length, rules, [], ◌∷◌, ◌++◌}
use Rattle.unique_keys.specs.Inner.Slots.{kept}
use Rattle.unique_keys.specs.Inner.WellKept.{IsListed}
use Rattle.unique_keys.proofs.Slots.{kept-push}
use Rattle.unique_keys.proofs.Places.{grown_keeps, grown_same, pushed_keeps}
use Rattle.unique_keys.proofs.notes.Notes.push.Goals as goal

pub returns-in_err-push-clause-well : goal.returns-in_err-push-clause-well
returns-in_err-push-clause-well c =
    grown_keeps c.list.new.self _ (length c.list.new.self.slots.items) refl c.list.ensures.well c.in_err-push.ensures.items refl (λ h. h) c.list.ensures.well.rows (λ n. grown_same _ _ _ refl) (λ n. grown_same _ _ _ refl)
    (λ row code h. h) c.list.ensures.well.once

pub returns-clause-well : goal.returns-clause-well
returns-clause-well c =
    let last : c.len-place.result ≡ length c.args.self.now.slots.items = search rules in
    let listed = subst (λ p. IsListed c.list.new.self c.args.note p) (last ∙ ap (λ s. length s.items) (sym c.list.ensures.slots)) c.in_ok-list.ensures.listed in
    pushed_keeps c.list.new.self _ c.args.note c.list.ensures.well listed c.in_ok-push.ensures.items refl refl refl refl refl refl

pub returns-clause-ok : goal.returns-clause-ok
returns-clause-ok c = ap kept c.in_ok-push.ensures.items ∙ kept-push c.list.new.self.slots.items c.args.note ∙ ap (λ s. kept s.items ++ c.args.note ∷ []) c.list.ensures.slots
