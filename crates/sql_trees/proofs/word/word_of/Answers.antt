use Rattle.std.proofs.Common.{ap, ◌∙◌}
use Rattle.sql_trees.specs.Words.{word_of}
use Rattle.sql_trees.specs.Inner.Spellings.{first_spelled}
use Rattle.sql_trees.proofs.Table.{table_is}
use Rattle.sql_trees.proofs.word.word_of.Goals as goal

pub returns : goal.returns
unfolding word_of
returns c = c.first_spelled.ensures ∙ ap (λ t. first_spelled t c.args.text.now) table_is
