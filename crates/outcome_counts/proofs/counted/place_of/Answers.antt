use Rattle.std.proofs.Common.{ℕ, ◌∙◌, sym, subst, get_or, below_more}
use Rattle.std.proofs.lemmas.Bool.{false≢true}
use Rattle.outcome_counts.specs.declared.counted.Group.{Group}
use Rattle.outcome_counts.specs.Outcomes.{SameOutcome}
use Rattle.outcome_counts.specs.Code.Adding.{outcomes_in}
use Rattle.outcome_counts.proofs.Counting.{read_map}
use Rattle.outcome_counts.proofs.counted.place_of.Goals as goal

pub loop-k-preserved : goal.loop-k-preserved
loop-k-preserved c = λ j d below.
    below_more (λ (n : ℕ). SameOutcome (get_or (outcomes_in c.args.groups.now) n d) c.args.outcome.now → ⊥) c.loop-k.k (λ n h. c.loop-k.invariant n d h)
    (λ same. false≢true (sym c.if-same.false ∙ c.same.ensures.1
    (subst (λ x. SameOutcome x c.args.outcome.now) (read_map (λ (g : Group). g.outcome) c.args.groups.now c.loop-k.k c.index-groups-k.result d c.loop-k-test.true c.index-groups-k.is) same)))
    j below
