use Rattle.std.proofs.Common.{◌∙◌, sym, ap, slice_get}
use Rattle.std.proofs.lemmas.Option.{slice_get_past}
use Rattle.chain_store.proofs.Linking.{at_place}
use Rattle.chain_store.proofs.Showing.{no_row_of, no_row_without, row_if_there}
use Rattle.chain_store.proofs.chain_store.is_shown.Goals as goal

pub returns-in_default : goal.returns-in_default
returns-in_default c =
    let none = slice_get_past c.log.result.now c.args.place c.in_default.ensures.lookup.3 in
    sym (no_row_without c.args.list.now c.args.view.now c.args.table c.args.place (ap (λ log. slice_get log c.args.place) (sym c.log.ensures) ∙ none))

pub returns-in-Some-shown_of : goal.returns-in-Some-shown_of
returns-in-Some-shown_of c =
    let at = at_place c.log.result.now c.args.list.now.log c.args.place c.in-Some.write.now c.log.ensures c.in-Some.ensures.lookup.3.0 c.in-Some.ensures.lookup.1 in
    row_if_there c.args.list.now c.args.view.now c.args.table c.args.place c.in-Some.write.now c.in-Some-shown_of.seen at c.in-Some-shown_of.ensures.0 c.in-Some-shown_of.ensures.1

pub returns-in-None : goal.returns-in-None
returns-in-None c =
    let at = at_place c.log.result.now c.args.list.now.log c.args.place c.in-Some.write.now c.log.ensures c.in-Some.ensures.lookup.3.0 c.in-Some.ensures.lookup.1 in
    sym (no_row_of c.args.list.now c.args.view.now c.args.table c.args.place c.in-Some.write.now at c.in-None.ensures)
