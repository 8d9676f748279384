use Rattle.std.proofs.Common.{◌≡◌, ◌≤◌, ℕ, ◌+◌, drop, length}
use Rattle.std.specs.Prelude.{map, is_some}
use Rattle.std.specs.List.{enumerate_from, filter}
use Rattle.spec_parser.specs.Trees.{SessionTree, session_view}
use Rattle.report_text.specs.Code.Turns.{session_numbers}
use Rattle.outcome_counts.proofs.setups.session_setups.Given as goal

abbrev pub invariant-loop-session : goal.invariant-loop-session
invariant-loop-session l = record {
  exact : l.number
      + length (map (λ (p : ℕ × SessionTree). p.0) (filter (λ (p : ℕ × SessionTree). is_some p.1.setup) (enumerate_from (l.session-index + 1) (map session_view (drop l.session-index l.sessions)))))
      ≡ length (session_numbers (λ s. s.setup) (map session_view l.sessions));
  few : l.number ≤ l.session-index;
}
