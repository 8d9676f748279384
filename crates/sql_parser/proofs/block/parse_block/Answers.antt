use Rattle.std.proofs.Common.{◌≡◌, ap, subst, ◌∙◌, arith, map, length, Err}
use Rattle.sql_trees.specs.Statements.{stmt_of}
use Rattle.sql_trees.specs.Tokens.{tok_views, classify_at}
use Rattle.iso_lexer.specs.declared.fault.LexFault.{LexFault}
use Rattle.iso_lexer.specs.SqlTokens.{sql_at_views}
use Rattle.iso_lexer.specs.SqlText.{SqlAnswers}
use Rattle.sql_expressions.specs.Results.{Gives}
use Rattle.sql_parser.specs.Inner.Blocks.{block_at}
use Rattle.sql_parser.proofs.Texts.{parses, has_fault, tokens_fit}
use Rattle.sql_parser.proofs.block.parse_block.Goals as goal

pub parse_tokens-requires : goal.parse_tokens-requires
parse_tokens-requires c =
    let fit = tokens_fit c.args.text.now c.in-Ok.lexed.items c.in_ok-tokens.tokens.items c.in-Ok.ensures (c.in_ok-tokens.ensures {u = tt} ∙ ap (λ xs. map classify_at (sql_at_views xs)) c.deref.ensures.value) in
    let same : length c.deref-2.result.now ≡ length c.in_ok-tokens.tokens.items = ap length c.deref-2.ensures.value in
    omega (arith, fit, same, c.requires)

pub returns-in-Err-Fault-clause-exact : goal.returns-in-Err-Fault-clause-exact
returns-in-Err-Fault-clause-exact c =
    rw c.in-Err-Fault.fault-is (has_fault c.args.text.now c.args.role c.in-Err-Fault.fault (subst (λ (e : LexFault). SqlAnswers c.args.text.now (Err e)) c.in-Err-Fault.field-0-is (c.in-Err-Fault.ensures {u = tt})))

pub returns-clause-exact : goal.returns-clause-exact
returns-clause-exact c =
    let same : tok_views c.deref-2.result.now ≡ map classify_at (sql_at_views c.in-Ok.lexed.items) = ap tok_views c.deref-2.ensures.value ∙ (c.in_ok-tokens.ensures {u = tt} ∙ ap (λ xs. map classify_at (sql_at_views xs)) c.deref.ensures.value) in
    parses (λ b. map stmt_of b.stmts) c.args.text.now c.args.role (sql_at_views c.in-Ok.lexed.items) c.parse_tokens.result c.in-Ok.ensures
    (subst (λ ts. Gives (λ b. map stmt_of b.stmts) c.parse_tokens.result (block_at (length c.args.text.now) c.args.role ts)) same c.parse_tokens.ensures.exact)
