use Rattle.std.proofs.Common.{◌≡◌, ◌++◌, ◌+◌, drop, map}
use Rattle.spec_parser.specs.Trees.{session_draft_view}
use Rattle.spec_parser.specs.Inner.Known.{known_view, sessions_from}
use Rattle.spec_parser.proofs.known.known_steps.Given as goal

abbrev pub invariant-loop-session : goal.invariant-loop-session
invariant-loop-session l = record {
  counted : l.number ≡ l.session-index;
  told : map known_view l.known.items ++ sessions_from (l.number + 1) (map session_draft_view (drop l.session-index l.sessions)) ≡ sessions_from 1 (map session_draft_view l.sessions);
}
