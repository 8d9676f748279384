use Rattle.std.proofs.Common.{suc, ◌+◌, ◌-◌, ◌*◌, length}
use Rattle.iso_lexer.specs.declared.limits.TheConstants.{MAX_DEPTH}
use Rattle.sql_trees.specs.Tokens.{tok_views}
use Rattle.sql_expressions.specs.Reading.{operators}
use Rattle.sql_expressions.specs.Inner.Pieces.{found, found_list, list_at, chain_at, operand_at, inside}
use Rattle.sql_expressions.proofs.Chains.{rank_of, Goes, Lists}
use Rattle.sql_expressions.specs.declared.level.Opened.TheVariants.{Whole}
use Rattle.sql_expressions.proofs.cursor.Parser.+levels.Given as goal

abbrev pub decreases-chain : goal.decreases-chain
decreases-chain l = l.room * 32 + rank_of l.level

abbrev pub decreases-not : goal.decreases-not
decreases-not l = l.room * 32 + 18

abbrev pub decreases-opened : goal.decreases-opened
decreases-opened l = l.room * 32

abbrev pub decreases-operand : goal.decreases-operand
decreases-operand l = l.room * 32 + rank_of l.level - 1

abbrev pub decreases-unary : goal.decreases-unary
decreases-unary l = l.room * 32 + 2

abbrev pub invariant-chain-loop-operator : goal.invariant-chain-loop-operator
invariant-chain-loop-operator l =
    Goes (operand_at l.self.text_len (inside l.self.text_len l.room) l.level) (operators l.level) (found l.left l.rest) (chain_at l.self.text_len (inside l.self.text_len l.room) l.level (tok_views l.fn.tokens))

abbrev pub decreases-chain-loop-operator : goal.decreases-chain-loop-operator
decreases-chain-loop-operator l = suc MAX_DEPTH - l.left.depth

abbrev pub decreases-is : goal.decreases-is
decreases-is l = l.room * 32 + 16

abbrev pub decreases-membership : goal.decreases-membership
decreases-membership l = l.room * 32 + 12

abbrev pub decreases-between : goal.decreases-between
decreases-between l = l.room * 32 + 10

abbrev pub decreases-contained : goal.decreases-contained
decreases-contained l = l.room * 32 + 10

abbrev pub decreases-list : goal.decreases-list
decreases-list l = l.room * 32 + 1

abbrev pub invariant-list-loop-after : goal.invariant-list-loop-after
invariant-list-loop-after l =
    Lists (inside l.self.text_len l.room Whole l.place) (found_list l.items.items l.depth l.rest) (list_at (inside l.self.text_len l.room Whole l.place) (tok_views l.fn.tokens))

abbrev pub decreases-list-loop-after : goal.decreases-list-loop-after
decreases-list-loop-after l = length (tok_views l.rest)
