-- An operator on what its two sides answer.
use Rattle.std.specs.Prelude.{true, false}
use Rattle.sql_trees.specs.declared.expr.Operator.{Operator}
use Rattle.sql_trees.specs.declared.expr.Operator.TheVariants.{Or, And}
use Rattle.sql_values.specs.Values.{Answer, if_ok}
use Rattle.sql_values.specs.Logic.{truth, condition, decided_by}
use Rattle.sql_values.specs.Expressions.{operate}

abbrev pub binary : Operator → Answer → Answer → Answer
binary Or a b = condition false (decided_by true (if_ok a truth) (if_ok b truth))
binary And a b = condition false (decided_by false (if_ok a truth) (if_ok b truth))
binary op a b = if_ok a (λ v. if_ok b (operate op v))
