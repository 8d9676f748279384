use Rattle.std.proofs.Common.{◌∙◌, List, sym, ap, subst, map}
use Rattle.permutation_lists.specs.Interleavings.{interleavings}
use Rattle.spec_parser.specs.declared.tree.SessionPart.{SessionPart}
use Rattle.spec_parser.specs.Trees.{session_view}
use Rattle.permutation_lists.specs.Inner.Ways.{AreShort}
use Rattle.permutation_lists.proofs.EntriesOf.{step_count, few_turns}
use Rattle.permutation_lists.proofs.permutations.Permutations.all.Goals as goal

pub invariant_of-result : goal.invariant_of-result
invariant_of-result c =
    let counts = c.deref-2.ensures.value ∙ c.in_ok-counts.ensures.counts ∙ ap (λ (ss : List SessionPart). map step_count (map session_view ss)) c.deref.ensures.value in
    subst AreShort (sym (c.in_ok-lists.ensures ∙ ap interleavings counts)) (few_turns (map session_view c.args.spec.now.sessions.items) c.requires.few_steps)
