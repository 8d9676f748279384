use Rattle.std.proofs.Common.{refl}
use Rattle.unique_keys.proofs.Places.{grown_keeps, grown_same, all_more}
use Rattle.unique_keys.proofs.notes.Notes.list.Goals as goal

pub returns-in_err-list_row-clause-well : goal.returns-in_err-list_row-clause-well
returns-in_err-list_row-clause-well c =
    grown_keeps c.args.self.now _ c.args.place c.requires.last c.requires.well refl refl c.is_mixed_by-self.ensures.own
    c.list_row.ensures.rows (λ n. grown_same _ _ _ refl) (λ n. grown_same _ _ _ refl) (λ row code h. h) c.requires.well.once

pub returns-in_err-add-clause-well : goal.returns-in_err-add-clause-well
returns-in_err-add-clause-well c =
    grown_keeps c.args.self.now _ c.args.place c.requires.last c.requires.well refl refl c.is_mixed_by-self.ensures.own
    (all_more c.args.self.now.by_row c.add.new.places c.list_row.new.all.items c.args.note.now.row.0 c.list_row.ensures.rows c.in_ok-list_row.ensures.listed c.add.ensures.others) c.add.ensures.grown (λ n. grown_same _ _ _ refl) (λ row code h. h) c.requires.well.once

pub returns-in_err-add-2-clause-well : goal.returns-in_err-add-2-clause-well
returns-in_err-add-2-clause-well c =
    grown_keeps c.args.self.now _ c.args.place c.requires.last c.requires.well refl refl c.is_mixed_by-self.ensures.own
    (all_more c.args.self.now.by_row c.add.new.places c.list_row.new.all.items c.args.note.now.row.0 c.list_row.ensures.rows c.in_ok-list_row.ensures.listed c.add.ensures.others) c.add.ensures.grown c.add-2.ensures.grown (λ row code h. h) c.requires.well.once

pub returns-in_err-add_codes-clause-well : goal.returns-in_err-add_codes-clause-well
returns-in_err-add_codes-clause-well c =
    grown_keeps c.args.self.now _ c.args.place c.requires.last c.requires.well refl refl c.is_mixed_by-self.ensures.own
    (all_more c.args.self.now.by_row c.add.new.places c.list_row.new.all.items c.args.note.now.row.0 c.list_row.ensures.rows c.in_ok-list_row.ensures.listed c.add.ensures.others) c.add.ensures.grown c.add-2.ensures.grown c.add_codes.ensures.kept (c.add_codes.ensures.once c.requires.well.once)

pub returns-clause-well : goal.returns-clause-well
returns-clause-well c =
    grown_keeps c.args.self.now _ c.args.place c.requires.last c.requires.well refl refl c.is_mixed_by-self.ensures.own
    (all_more c.args.self.now.by_row c.add.new.places c.list_row.new.all.items c.args.note.now.row.0 c.list_row.ensures.rows c.in_ok-list_row.ensures.listed c.add.ensures.others) c.add.ensures.grown c.add-2.ensures.grown c.add_codes.ensures.kept (c.add_codes.ensures.once c.requires.well.once)
