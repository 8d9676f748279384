use Rattle.std.proofs.Common.{rules, ◌∙◌, sym, ap, List, Vec, map}
use Rattle.std.specs.Global.{Global}
use Rattle.sql_trees.specs.Trees.{tree_of}
use Rattle.sql_trees.specs.declared.expr.Expr.{Expr}
use Rattle.sql_trees.specs.Statements.{exprs_of, insert_of}
use Rattle.sql_values.specs.declared.row.Row.{Row}
use Rattle.session_machine.specs.Inner.Statements.{insert_one, after_walk, put_insert}
use Rattle.session_statements.proofs.Inserting.{row_passes, row_shows, row_stops}
use Rattle.session_statements.proofs.Visiting.{kept_row, still_at_work}
use Rattle.session_statements.proofs.insert.insert_rows.Goals.{in-Passes, in-Shows+in_ok-push-in-Shows}
use Rattle.session_statements.proofs.insert.insert_rows.Goals as goal

pub insert_row-requires : goal.insert_row-requires
insert_row-requires g c = record { work = still_at_work c.args.db.now c.loop-at.db c.args.work.now c.loop-at.invariant.kept c.requires.work }

pub returns-in-Stops-clause-kept : goal.returns-in-Stops-clause-kept
returns-in-Stops-clause-kept g c =
    kept_row c.args.db.now c.loop-at.db c.insert_row.new.db c.args.work.now (put_insert (insert_of c.args.stmt.now)) c.args.to.now (map tree_of c.deref.result.now) _ c.requires.work c.loop-at.invariant.kept c.in_ok-insert_row.ensures

pub returns-in-Stops-clause-walk : goal.returns-in-Stops-clause-walk
returns-in-Stops-clause-walk g c before outcome =
    let visit = insert_one c.args.work.now (put_insert (insert_of c.args.stmt.now)) c.args.to.now in
    let same = ap (λ (es : List Expr). visit c.loop-at.db (map tree_of es)) (sym c.deref.ensures.value) ∙ c.in_ok-insert_row.ensures in
    ap (after_walk before c.args.work.now outcome) (sym c.loop-at.invariant.rest
    ∙ row_stops exprs_of visit c.loop-at.db c.insert_row.new.db c.args.stmt.now.rows.items c.loop-at.at c.index.result.now c.loop-at.rows.items _ c.in-Stops.stop
    (search rules) c.index.ensures same c.in-Stops.is)

pub loop-at-preserved : goal.loop-at-preserved
loop-at-preserved g c =
    let put = put_insert (insert_of c.args.stmt.now) in
    let visit = insert_one c.args.work.now put c.args.to.now in
    let same = ap (λ (es : List Expr). visit c.loop-at.db (map tree_of es)) (sym c.deref.ensures.value) ∙ c.in_ok-insert_row.ensures in
    record {
      rest = (elim c.match-branch-2.branch [
        | in-Passes w ↦ row_passes exprs_of visit c.loop-at.db c.insert_row.new.db c.args.stmt.now.rows.items c.loop-at.at c.index.result.now c.loop-at.rows.items c.match-branch-2.rows.items _
            (search rules) c.index.ensures same w.in-Passes.is (sym (ap (λ (v : Vec Row Global). v.items) w.rows-is))
        | in-Shows+in_ok-push-in-Shows w ↦ row_shows exprs_of visit c.loop-at.db c.insert_row.new.db c.args.stmt.now.rows.items c.loop-at.at c.index.result.now c.loop-at.rows.items c.match-branch-2.rows.items _ _
            (search rules) c.index.ensures same w.in-Shows.is (ap (λ (v : Vec Row Global). v.items) w.rows-is ∙ w.in_ok-push-in-Shows.ensures.items)
      ]) ∙ c.loop-at.invariant.rest;
      kept = kept_row c.args.db.now c.loop-at.db c.insert_row.new.db c.args.work.now put c.args.to.now (map tree_of c.deref.result.now) _ c.requires.work c.loop-at.invariant.kept c.in_ok-insert_row.ensures;
    }
