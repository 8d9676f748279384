use Rattle.std.proofs.Common.{arith, rules}
use Rattle.iso_lexer.proofs.SpecRules.{spec_rules, read_whole}
use Rattle.iso_lexer.proofs.spec_text.spec_tokens.Goals as goal

pub tokens-requires : goal.tokens-requires
tokens-requires c = search (rules, spec_rules)

pub returns : goal.returns
returns c = read_whole c.args.text.now c.tokens.result (omega arith) c.tokens.ensures
