use Rattle.std.proofs.Common.{sym, ap, ◌∙◌, subst}
use Rattle.sql_trees.specs.Tokens.{tok_views}
use Rattle.sql_expressions.specs.Results.{Gives}
use Rattle.sql_expressions.specs.Reading.{part_of, expr_at}
use Rattle.sql_expressions.specs.Inner.Pieces.{found}
use Rattle.sql_expressions.proofs.Same.{expr_same, is_part, gives_part}
use Rattle.sql_expressions.proofs.Complete.{expr_complete}
use Rattle.sql_expressions.proofs.Chains.{ok_gives}
use Rattle.sql_expressions.proofs.Levels.{expr_begins}
use Rattle.sql_expressions.proofs.Shortens.{expr_shortens}
use Rattle.sql_expressions.proofs.cursor.Parser.expression.Goals as goal

pub returns-clause-exact : goal.returns-clause-exact
returns-clause-exact c = gives_part (λ x. (part_of x.0, tok_views x.1.now)) c.chain.result (expr_at c.args.self.text_len (tok_views c.args.tokens.now))
    (subst (λ r. Gives (λ x. found x.0 x.1.now) c.chain.result r) (sym (expr_same c.args.self.text_len (tok_views c.args.tokens.now))) c.chain.ensures)

pub returns-clause-found : goal.returns-clause-found
returns-clause-found c = ok_gives _ _ _ _ c.chain.ensures (λ x e. expr_begins _ _ _ (is_part _ (found x.0 x.1.now) (expr_same c.args.self.text_len (tok_views c.args.tokens.now) ∙ e)))

pub returns-clause-shorter : goal.returns-clause-shorter
returns-clause-shorter c = ok_gives _ _ _ _ c.chain.ensures (λ x e. expr_shortens _ _ _ (is_part _ (found x.0 x.1.now) (expr_same c.args.self.text_len (tok_views c.args.tokens.now) ∙ e)))

pub returns-clause-only : goal.returns-clause-only
returns-clause-only c = λ front rest e d h p s.
    subst (Gives (λ x. (part_of x.0, tok_views x.1.now)) c.chain.result)
    (ap (expr_at c.args.self.text_len) h ∙ expr_complete c.args.self.text_len p rest s) (returns-clause-exact c)
