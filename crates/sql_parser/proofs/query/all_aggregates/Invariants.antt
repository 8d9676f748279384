use Rattle.std.proofs.Common.{◌≡◌, length, map}
use Rattle.std.specs.List.{list_all}
use Rattle.sql_blocks.specs.Parts.{is_aggregate}
use Rattle.sql_trees.specs.Statements.{item_of}
use Rattle.sql_parser.proofs.query.all_aggregates.Given as goal

abbrev pub invariant-loop-items : goal.invariant-loop-items
invariant-loop-items l = list_all is_aggregate (map item_of l.items) ≡ list_all is_aggregate (map item_of l.fn.items)

abbrev pub decreases-loop-items : goal.decreases-loop-items
decreases-loop-items l = length l.items
