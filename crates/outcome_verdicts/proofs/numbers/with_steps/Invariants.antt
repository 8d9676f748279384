use Rattle.std.proofs.Common.{◌≡◌, ◌+◌, ◌-◌, ◌^◌, length, map, min, take}
use Rattle.std.specs.Prelude.{flat_map}
use Rattle.spec_parser.specs.Trees.{SessionTree, session_view}
use Rattle.outcome_verdicts.proofs.numbers.with_steps.Given as goal

abbrev pub invariant-loop-session : goal.invariant-loop-session
invariant-loop-session l = l.number ≡ min (length (flat_map (λ (s : SessionTree). s.steps) (map session_view (take l.session-index l.sessions))) + l.first) (2 ^ 64 - 1)
