use Rattle.std.proofs.Common.{◌≡◌, [], ◌∙◌, sym, ap, subst, length, map, Bor}
use Rattle.std.specs.Prelude.{unwrap_or}
use Rattle.std.proofs.lemmas.List.{length-map}
use Rattle.sql_trees.specs.Statements.{column_of, select_of}
use Rattle.sql_values.specs.declared.row.Row.{Row}
use Rattle.row_versions.specs.declared.write.Seen.{Seen}
use Rattle.row_versions.specs.Log.{values_at}
use Rattle.session_queries.specs.Code.Fronts.{AnswersList}
use Rattle.query_results.specs.Queries.{taken}
use Rattle.session_machine.specs.Rows.{columns_in}
use Rattle.session_machine.specs.Targets.{at_places}
use Rattle.session_machine.specs.Inner.Pieces.{shown_to}
use Rattle.session_statements.proofs.Lent.{lent_fit}
use Rattle.session_statements.proofs.targets.taken_targets.Goals as goal

pub taken_places-places-requires : goal.taken_places-places-requires
taken_places-places-requires g c k d h =
    let db = c.args.db.now in
    let w = c.args.work.now in
    let now = λ (r : Bor Row). r.now in
    let same : map now c.deref-2.result.now ≡ shown_to db w =
    ap (map now) c.deref-2.ensures.value ∙ c.in_ok-rows.ensures ∙ ap (map (λ (s : Seen). unwrap_or (values_at db.content s.place) [])) (c.deref.ensures.value ∙ c.in_ok-seen.ensures) in
    let long : length (columns_in db w) ≡ length c.columns_in.result.now =
    sym (ap length c.columns_in.ensures) ∙ length-map c.columns_in.result.now column_of in
    lent_fit now c.deref-2.result.now db w c.requires.work.running.orderly same k d h ∙ long

pub returns : goal.returns
returns g c =
    let db = c.args.db.now in
    let w = c.args.work.now in
    let now = λ (r : Bor Row). r.now in
    let s = select_of c.args.stmt.now in
    let same : map now c.deref-2.result.now ≡ shown_to db w =
    ap (map now) c.deref-2.ensures.value ∙ c.in_ok-rows.ensures ∙ ap (map (λ (s : Seen). unwrap_or (values_at db.content s.place) [])) (c.deref.ensures.value ∙ c.in_ok-seen.ensures) in
    let due = taken s (columns_in db w) (shown_to db w) in
    subst (λ seen. AnswersList c.at_places.result (at_places seen due)) (c.deref-3.ensures.value ∙ c.in_ok-seen.ensures) (c.at_places.ensures due
    (subst (λ cols. AnswersList c.taken_places-places.result (taken s cols (shown_to db w))) c.columns_in.ensures
    (subst (λ rows. AnswersList c.taken_places-places.result (taken s (map column_of c.columns_in.result.now) rows)) same c.taken_places-places.ensures.places)))
