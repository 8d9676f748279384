use Rattle.std.proofs.Common.{◌≡◌, ◌++◌, drop, map}
use Rattle.spec_parser.specs.Trees.{session_draft_view, session_view}
use Rattle.spec_parser.specs.Names.{session_tree}
use Rattle.spec_parser.proofs.resolve.session_parts.Given as goal

abbrev pub invariant-loop-session : goal.invariant-loop-session
invariant-loop-session l = map session_view l.parts.items ++ map session_tree (map session_draft_view (drop l.session-index l.sessions)) ≡ map session_tree (map session_draft_view l.sessions)
