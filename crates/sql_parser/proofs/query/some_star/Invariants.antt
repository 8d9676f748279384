use Rattle.std.proofs.Common.{◌≡◌, length, map}
use Rattle.std.specs.List.{list_any}
use Rattle.sql_blocks.specs.Inner.Parts.{is_all}
use Rattle.sql_trees.specs.Statements.{item_of}
use Rattle.sql_parser.proofs.query.some_star.Given as goal

abbrev pub invariant-loop-items : goal.invariant-loop-items
invariant-loop-items l = list_any is_all (map item_of l.items) ≡ list_any is_all (map item_of l.fn.items)

abbrev pub decreases-loop-items : goal.decreases-loop-items
decreases-loop-items l = length l.items
