use Rattle.std.specs.Prelude.{IsTrue}
use Rattle.outcome_counts.specs.Outcomes.{Pairwise, SameAnswer}
use Rattle.outcome_counts.proofs.Pairs.{by_equals}
use Rattle.outcome_counts.proofs.alike.same_step.Goals as goal

pub returns : goal.returns
returns c =
    by_equals (Pairwise SameAnswer) c.args.a.now.items c.args.b.now.items _ _ (IsTrue c.same_answers.result) c.as_slice-answers.ensures.value c.as_slice-others.ensures.value c.same_answers.ensures
