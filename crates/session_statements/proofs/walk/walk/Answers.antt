use Rattle.std.proofs.Common.{rules, ◌∙◌, sym, ap, Vec}
use Rattle.std.specs.Global.{Global}
use Rattle.sql_values.specs.declared.row.Row.{Row}
use Rattle.session_statements.proofs.Visiting.{kept_step, still_at_work, walk_passes, walk_shows}
use Rattle.session_statements.proofs.walk.walk.Goals.{in-Passes, in-Shows+in_ok-push-in-Shows}
use Rattle.session_statements.proofs.walk.walk.Goals as goal

pub visit-requires-clause-work : goal.visit-requires-clause-work
visit-requires-clause-work g c = still_at_work c.args.db.now c.loop-at.db c.args.work.now c.loop-at.invariant.kept c.requires.work

pub returns-in-Stops-clause-kept : goal.returns-in-Stops-clause-kept
returns-in-Stops-clause-kept g c =
    kept_step c.args.db.now c.loop-at.db c.visit.new.db c.args.work.now c.args.act.now c.args.targets.now c.loop-at.at _ _ c.requires.work c.requires.its
    c.loop-at.invariant.kept (search rules) c.in_ok-visit.ensures

pub loop-at-preserved : goal.loop-at-preserved
loop-at-preserved g c = record {
  rest = (elim c.match-branch-2.branch [
    | in-Passes w ↦ walk_passes c.args.work.now c.args.act.now c.loop-at.db c.visit.new.db c.args.targets.now c.loop-at.at _ c.loop-at.rows.items c.match-branch-2.rows.items _
        (search rules) c.in_ok-visit.ensures w.in-Passes.is (sym (ap (λ (v : Vec Row Global). v.items) w.rows-is))
    | in-Shows+in_ok-push-in-Shows w ↦ walk_shows c.args.work.now c.args.act.now c.loop-at.db c.visit.new.db c.args.targets.now c.loop-at.at _ c.loop-at.rows.items c.match-branch-2.rows.items _ _
        (search rules) c.in_ok-visit.ensures w.in-Shows.is (ap (λ (v : Vec Row Global). v.items) w.rows-is ∙ w.in_ok-push-in-Shows.ensures.items)
  ]) ∙ c.loop-at.invariant.rest;
  kept = kept_step c.args.db.now c.loop-at.db c.visit.new.db c.args.work.now c.args.act.now c.args.targets.now c.loop-at.at _ _ c.requires.work c.requires.its
      c.loop-at.invariant.kept (search rules) c.in_ok-visit.ensures;
}
