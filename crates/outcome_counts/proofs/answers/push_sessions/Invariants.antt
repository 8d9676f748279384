use Rattle.std.proofs.Common.{◌≡◌, ◌+◌, ◌++◌, map, drop}
use Rattle.std.specs.Prelude.{flat_map}
use Rattle.std.specs.List.{enumerate_from}
use Rattle.spec_parser.specs.Trees.{session_view}
use Rattle.outcome_counts.specs.Outcomes.{session_answers}
use Rattle.outcome_counts.specs.Inner.Answers.{lists_of}
use Rattle.outcome_counts.proofs.answers.push_sessions.Given as goal

abbrev pub invariant-loop-place : goal.invariant-loop-place
invariant-loop-place l =
    lists_of l.answers.items ++ flat_map (session_answers l.items) (enumerate_from (l.place + 1) (map session_view (drop l.place l.sessions)))
    ≡ lists_of l.fn.answers.items ++ flat_map (session_answers l.items) (enumerate_from 1 (map session_view l.sessions))
