use Rattle.std.proofs.Common.{◌≡◌, ◌++◌, take}
use Rattle.std.specs.Prelude.{map, flat_map}
use Rattle.spec_parser.specs.Trees.{session_view}
use Rattle.spec_parser.specs.Stands.{session_parts}
use Rattle.sql_blocks.specs.declared.block.Role.TheVariants.{Session}
use Rattle.spec_files.specs.BlockAnswers.{block_as}
use Rattle.spec_files.specs.BlockAnswers.{placed_view}
use Rattle.spec_files.proofs.blocks.add_sessions.Given as goal

abbrev pub invariant-loop-session : goal.invariant-loop-session
invariant-loop-session l = map placed_view l.parts.items ≡ map placed_view l.fn.parts.items ++ map (block_as Session) (flat_map session_parts (map session_view (take l.session-index l.sessions)))
