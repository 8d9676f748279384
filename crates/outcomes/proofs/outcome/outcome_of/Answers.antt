use Rattle.std.proofs.Common.{length, map}
use Rattle.sql_blocks.specs.Blocks.{blocks_of}
use Rattle.session_machine.specs.declared.event.Mode.TheVariants.{Directed}
use Rattle.spec_parser.specs.Trees.{session_view}
use Rattle.outcomes.proofs.Redoing.{front_is_legal}
use Rattle.outcomes.proofs.outcome.outcome_of.Goals as goal

pub replayed-requires-clause-legal : goal.replayed-requires-clause-legal
replayed-requires-clause-legal c =
    front_is_legal (blocks_of c.args.blocks.now) (length (map session_view c.args.spec.now.sessions.items)) Directed c.args.items.now c.args.front
    (c.requires.regular.state, c.requires.regular.run)
