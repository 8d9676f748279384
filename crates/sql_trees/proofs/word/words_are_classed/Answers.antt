use Rattle.sql_trees.proofs.Table.{reserved_are, left_out_are}
use Rattle.sql_trees.proofs.word.words_are_classed.Goals as goal

pub returns-clause-reserved : goal.returns-clause-reserved
returns-clause-reserved c = reserved_are

pub returns-clause-left_out : goal.returns-clause-left_out
returns-clause-left_out c = left_out_are
