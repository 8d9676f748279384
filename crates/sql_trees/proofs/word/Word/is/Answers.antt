use Rattle.std.proofs.Common.{rules, sym, ◌∙◌}
use denote.Enum.Bare.{same_true, true_same}
use Rattle.sql_trees.specs.contracts.word.Word.{the_type}
use Rattle.sql_trees.proofs.word.Word.is.Goals as goal

pub returns-clause-same : goal.returns-clause-same
returns-clause-same c = (λ is. same_true the_type (search rules) _ _ (sym c.eq.ensures ∙ is), λ e. c.eq.ensures ∙ true_same the_type _ _ e)
