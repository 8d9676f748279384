-- To be believed. SQL text as statements.
use Rattle.std.specs.Prelude.{◌≡◌, ℕ, List, length, Result, Err}
use Rattle.std.specs.Result.{result_map_both}
use Rattle.iso_lexer.specs.declared.fault.Fault.{Fault}
use Rattle.iso_lexer.specs.Lexing.{Reads}
use Rattle.iso_lexer.specs.SqlText.{sql_front_of}
use Rattle.sql_trees.specs.declared.fault.SqlFault.{SqlFault}
use Rattle.sql_trees.specs.declared.fault.SqlFault.TheVariants.{Memory, Lex}
use Rattle.sql_trees.specs.Statements.{StmtTree}
use Rattle.sql_trees.specs.Words.{word_of}
use Rattle.sql_trees.specs.Tokens.{Tokens}
use Rattle.iso_lexer.specs.Results.{if_ok}
use Rattle.sql_blocks.specs.declared.block.Role.{Role}
use Rattle.sql_parser.specs.Blocks.{block_at}

-- the text has tokens, each word with its keyword, or a first fault of them; the answer is that fault, or what the tokens are read as
pub record ReadsAs (text : List ℕ) (role : Role) (answer : Result (List StmtTree) SqlFault) : Type 0 where
  pub lexed : Result Tokens Fault
  pub lexes : Reads (sql_front_of word_of) (length text) text lexed
  pub reads : if_ok (result_map_both (λ ts. ts) Lex lexed) (block_at (length text) role) ≡ answer

-- What was answered is so, unless a growth of memory was refused.
abbrev pub Parses : List ℕ → Role → Result (List StmtTree) SqlFault → Type 0
Parses text role (Err Memory) = Unit {0}
Parses text role answer = ReadsAs text role answer
