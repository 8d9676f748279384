use Rattle.std.proofs.Common.{sym, ◌∙◌}
use Rattle.sql_trees.specs.Trees.{tree_of}
use Rattle.sql_equality.proofs.Sameness.{same_decides}
use Rattle.sql_equality.proofs.expressions.same_expr.Goals as goal

pub returns : goal.returns
returns c =
    let d = same_decides (tree_of c.args.a.now) (tree_of c.args.b.now) in
    (λ e. d.0 (sym c.alike.ensures ∙ e), λ e. c.alike.ensures ∙ d.1 e)
