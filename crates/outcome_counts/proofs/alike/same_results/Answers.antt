use Rattle.std.specs.Prelude.{IsTrue}
use Rattle.outcome_counts.proofs.Pairs.{results_same}
use Rattle.outcome_counts.proofs.alike.same_results.Goals as goal

pub returns-then-same_titles : goal.returns-then-same_titles
returns-then-same_titles c =
    results_same c.args.a.now c.args.b.now _ _ _ _ (IsTrue c.same_rows.result) c.titles-titles.ensures c.titles-others.ensures c.rows-rows.ensures.rows c.rows-other_rows.ensures.rows
    (λ is. (c.same_titles.ensures.0 c.if-same_titles.true, c.same_rows.ensures.0 is), λ both. c.same_rows.ensures.1 both.1)
