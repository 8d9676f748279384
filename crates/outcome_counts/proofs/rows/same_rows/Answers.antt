use Rattle.std.proofs.Common.{◌∙◌, sym, ap, not}
use Rattle.std.proofs.lemmas.Bool.{false≢true, true≢false, not-true}
use Rattle.outcome_counts.proofs.Multisets.{same_from_tests, tests_from_same}
use Rattle.outcome_counts.proofs.rows.same_rows.Goals as goal

pub returns-then-one_differs : goal.returns-then-one_differs
returns-then-one_differs c = (
  λ is. absurd (false≢true is),
  λ same. absurd (true≢false (sym c.if-one_differs.true ∙ (c.one_differs.ensures ∙ tests_from_same c.args.a.now c.args.b.now c.args.a.now same))),
)

pub returns : goal.returns
returns c = (
  λ is. same_from_tests c.args.a.now c.args.b.now (sym c.one_differs.ensures ∙ c.if-one_differs.false) (sym c.one_differs-2.ensures ∙ not-true c.one_differs-2.result is),
  λ same. ap not (c.one_differs-2.ensures ∙ tests_from_same c.args.a.now c.args.b.now c.args.b.now same),
)
