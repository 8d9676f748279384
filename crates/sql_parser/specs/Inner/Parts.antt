-- Parts of readings as the code reads them.
use Rattle.std.specs.Prelude.{ℕ, Bool, unwrap_or}
use Rattle.sql_trees.specs.declared.fault.SqlFault.{SqlFault}
use Rattle.sql_trees.specs.declared.fault.SqlFault.TheVariants.{LeftOut}
use Rattle.sql_trees.specs.Tokens.{Token, Tokens}
use Rattle.sql_expressions.specs.Readers.{after, either, place_of, misplaced}
use Rattle.sql_parser.specs.Grammar.{is_unquoted}

-- the tokens without the first, if it is of this kind
abbrev pub past : (Token → Bool) → Tokens → Tokens
past is_it ts = unwrap_or (after is_it ts) ts

-- the fault at the first token, where each unquoted word is left out
abbrev pub misplaced_word : ℕ → Tokens → SqlFault
misplaced_word last ts = either is_unquoted (λ us. LeftOut (place_of last ts)) (misplaced last) ts
