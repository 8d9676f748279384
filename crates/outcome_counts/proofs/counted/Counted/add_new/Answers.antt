use Rattle.std.proofs.Common.{ap, ◌∙◌, ◌++◌, ◌∷◌, [], ℕ, map}
use Rattle.std.proofs.lemmas.List.{map-append}
use Rattle.outcome_counts.specs.declared.counted.Group.{Group}
use Rattle.outcome_counts.specs.declared.outcome.RunOutcome.{RunOutcome}
use Rattle.outcome_counts.proofs.counted.Counted.add_new.Goals as goal

pub returns-clause-outcomes : goal.returns-clause-outcomes
returns-clause-outcomes c =
    ap (map (λ (g : Group). g.outcome)) c.in_ok-push.ensures.items ∙ map-append (λ (g : Group). g.outcome) c.args.self.now.groups.items (c.in_ok-group.group ∷ [])
    ∙ ap (λ (o : RunOutcome). map (λ (g : Group). g.outcome) c.args.self.now.groups.items ++ o ∷ []) c.in_ok-group.ensures.0

pub returns-clause-counts : goal.returns-clause-counts
returns-clause-counts c =
    ap (map (λ (g : Group). g.count)) c.in_ok-push.ensures.items ∙ map-append (λ (g : Group). g.count) c.args.self.now.groups.items (c.in_ok-group.group ∷ [])
    ∙ ap (λ (n : ℕ). map (λ (g : Group). g.count) c.args.self.now.groups.items ++ n ∷ []) c.in_ok-group.ensures.1
