use Rattle.std.proofs.Common.{◌≡◌, [], ◌∙◌, sym, ap, subst, length, map, Bor}
use Rattle.std.specs.Prelude.{unwrap_or, option_map}
use Rattle.std.proofs.lemmas.List.{length-map}
use Rattle.sql_trees.specs.Trees.{tree_of}
use Rattle.sql_trees.specs.Statements.{column_of}
use Rattle.sql_values.specs.declared.row.Row.{Row}
use Rattle.row_versions.specs.declared.write.Seen.{Seen}
use Rattle.row_versions.specs.Log.{values_at}
use Rattle.session_queries.specs.Code.Fronts.{AnswersList}
use Rattle.query_results.specs.Queries.{cols_of, passing}
use Rattle.session_machine.specs.Rows.{cols_in, columns_in}
use Rattle.session_machine.specs.Targets.{at_places}
use Rattle.session_machine.specs.Inner.Pieces.{shown_to}
use Rattle.session_statements.proofs.Lent.{lent_fit}
use Rattle.session_statements.proofs.targets.passing_targets.Goals as goal

pub passing_places-places-requires : goal.passing_places-places-requires
passing_places-places-requires g c k d h =
    let db = c.args.db.now in
    let w = c.args.work.now in
    let now = λ (r : Bor Row). r.now in
    let same : map now c.deref-2.result.now ≡ shown_to db w =
    ap (map now) c.deref-2.ensures.value ∙ c.in_ok-rows.ensures ∙ ap (map (λ (s : Seen). unwrap_or (values_at db.content s.place) [])) (c.deref.ensures.value ∙ c.in_ok-seen.ensures) in
    let long : length (columns_in db w) ≡ length c.columns_in.result.now =
    sym (ap length c.columns_in.ensures) ∙ length-map c.columns_in.result.now column_of in
    lent_fit now c.deref-2.result.now db w c.requires.work.running.orderly same k d h ∙ long

pub returns : goal.returns
returns g c =
    let db = c.args.db.now in
    let w = c.args.work.now in
    let now = λ (r : Bor Row). r.now in
    let filter = option_map tree_of c.args.filter.now in
    let same : map now c.deref-2.result.now ≡ shown_to db w =
    ap (map now) c.deref-2.ensures.value ∙ c.in_ok-rows.ensures ∙ ap (map (λ (s : Seen). unwrap_or (values_at db.content s.place) [])) (c.deref.ensures.value ∙ c.in_ok-seen.ensures) in
    let due = passing (cols_in db w) filter (shown_to db w) in
    subst (λ seen. AnswersList c.at_places.result (at_places seen due)) (c.deref-3.ensures.value ∙ c.in_ok-seen.ensures) (c.at_places.ensures due
    (subst (λ cols. AnswersList c.passing_places-places.result (passing (cols_of cols) filter (shown_to db w))) c.columns_in.ensures
    (subst (λ rows. AnswersList c.passing_places-places.result (passing (cols_of (map column_of c.columns_in.result.now)) filter rows)) same c.passing_places-places.ensures.places)))
