use Rattle.std.proofs.Common.{refl, sym, ◌∙◌, ap, ◌==◌, length}
use Rattle.unique_keys.proofs.Places.{emptied_keeps, others_on, shrunk_same}
use Rattle.unique_keys.proofs.notes.Notes.empty.Goals as goal

pub returns-then-is_empty-clause-well : goal.returns-then-is_empty-clause-well
returns-then-is_empty-clause-well c =
    emptied_keeps c.args.self.now _ c.args.place c.requires c.take.ensures.left refl refl refl refl c.strike.ensures.shrunk
    (others_on c.strike.new.places c.args.self.now.by_code c.strike_codes.new.by_code c.in-Some.note.row.0 (ap (λ l. length l == 0) (sym c.at.ensures) ∙ sym c.is_empty.ensures ∙ c.if-is_empty.true) c.strike_codes.ensures)
    (λ code. (c.strike_codes.ensures code).once (c.requires.once code))

pub returns-in-Some-clause-well : goal.returns-in-Some-clause-well
returns-in-Some-clause-well c = emptied_keeps c.args.self.now _ c.args.place c.requires c.take.ensures.left refl refl refl refl c.strike.ensures.shrunk (λ r p t code h. h) c.requires.once

pub returns-clause-well : goal.returns-clause-well
returns-clause-well c = emptied_keeps c.args.self.now _ c.args.place c.requires c.take.ensures.left refl refl refl refl (λ n. shrunk_same _ _ _ refl) (λ r p t code h. h) c.requires.once
