use Rattle.std.proofs.Common.{◌≤◌, length}
use Rattle.sql_trees.specs.Tokens.{tok_views}
use Rattle.sql_parser.proofs.Lists.{Onward}
use Rattle.sql_parser.proofs.list.items.Given as goal

abbrev pub invariant-loop-after : goal.invariant-loop-after
invariant-loop-after g l = record {
  onward : Onward (g.L.List.adds l.parser.text_len) l.fn.list (tok_views l.fn.tokens) l.list (tok_views l.rest);
  shorter : length l.rest ≤ length l.fn.tokens;
}

abbrev pub decreases-loop-after : goal.decreases-loop-after
decreases-loop-after g l = length l.rest
