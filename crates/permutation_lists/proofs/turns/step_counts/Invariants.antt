use Rattle.std.proofs.Common.{◌≡◌, take}
use Rattle.std.specs.Prelude.{map}
use Rattle.spec_parser.specs.Trees.{session_view}
use Rattle.permutation_lists.proofs.EntriesOf.{step_count}
use Rattle.permutation_lists.proofs.turns.step_counts.Given as goal

abbrev pub invariant-loop-session : goal.invariant-loop-session
invariant-loop-session l = l.counts.items ≡ map step_count (map session_view (take l.session-index l.sessions))
