use Rattle.std.proofs.Common.{◌≡◌, [], ◌∙◌, sym, ap, subst, length, map, Bor}
use Rattle.std.specs.Prelude.{unwrap_or}
use Rattle.std.proofs.lemmas.List.{length-map}
use Rattle.sql_trees.specs.Statements.{column_of, select_of}
use Rattle.sql_values.specs.declared.row.Row.{Row}
use Rattle.sql_values.specs.Values.{Answers}
use Rattle.row_versions.specs.declared.write.Seen.{Seen}
use Rattle.row_versions.specs.Log.{values_at}
use Rattle.query_results.specs.Queries.{result_of}
use Rattle.session_machine.specs.Views.{rows_shown}
use Rattle.session_machine.specs.Rows.{columns_in}
use Rattle.session_statements.proofs.Lent.{lent_fit}
use Rattle.session_statements.proofs.select.result_at.Goals as goal

pub result_of-requires : goal.result_of-requires
result_of-requires g c k d h =
    let db = c.args.db.now in
    let w = c.args.work.now in
    let now = λ (r : Bor Row). r.now in
    let same : map now c.as_slice.result.now ≡ rows_shown db.content w.view w.table =
    ap (map now) c.as_slice.ensures.value ∙ c.in_ok-rows.ensures ∙ ap (map (λ (s : Seen). unwrap_or (values_at db.content s.place) [])) (c.deref.ensures.value ∙ c.in_ok-seen.ensures) in
    let long : length (columns_in db w) ≡ length c.columns_in.result.now =
    sym (ap length c.columns_in.ensures) ∙ length-map c.columns_in.result.now column_of in
    lent_fit now c.as_slice.result.now db w c.requires.work.running.orderly same k d h ∙ long

pub returns : goal.returns
returns g c =
    let db = c.args.db.now in
    let w = c.args.work.now in
    let now = λ (r : Bor Row). r.now in
    let same : map now c.as_slice.result.now ≡ rows_shown db.content w.view w.table =
    ap (map now) c.as_slice.ensures.value ∙ c.in_ok-rows.ensures ∙ ap (map (λ (s : Seen). unwrap_or (values_at db.content s.place) [])) (c.deref.ensures.value ∙ c.in_ok-seen.ensures) in
    subst (λ cols. Answers c.result_of.result (result_of (select_of c.args.stmt.now) cols (rows_shown db.content w.view w.table))) c.columns_in.ensures
    (subst (λ rows. Answers c.result_of.result (result_of (select_of c.args.stmt.now) (map column_of c.columns_in.result.now) rows)) same c.result_of.ensures.answer)
