-- What is so of every list of tokens.
use Rattle.std.specs.Prelude.{◌≡◌, ◌↔◌, ◌<◌, ◌≤◌, ◌^◌, [], ◌∷◌, ◌++◌, ℕ, true, false, List, length, Some, Ok, Err}
use Rattle.iso_lexer.specs.declared.limits.TheConstants.{MAX_STMTS}
use Rattle.iso_lexer.specs.declared.token.At.{At}
use Rattle.std.specs.List.{list_all}
use Rattle.iso_lexer.specs.declared.sql_token.SqlSign.TheVariants as signs
use Rattle.sql_trees.specs.declared.fault.SqlFault.{SqlFault}
use Rattle.sql_trees.specs.declared.fault.SqlFault.TheVariants.{LeftOut, TooMany, BadColumns, DdlInSession}
use Rattle.sql_trees.specs.Statements.{StmtTree, SelectTree, Selects}
use Rattle.sql_trees.specs.Tokens.{Token, Tokens}
use Rattle.sql_expressions.specs.Readers.{is_sign, place_of}
use Rattle.sql_expressions.specs.Laws.{head}
use Rattle.sql_blocks.specs.declared.block.Role.{Role}
use Rattle.sql_blocks.specs.Parts.{is_session, column_names, is_allowed}
use Rattle.sql_blocks.specs.Kept.{is_kept_in}
use Rattle.sql_parser.specs.Blocks.{block_at, whole_at}
use Rattle.sql_parser.specs.Tables.{TableRead, keys_fault, created}
use Rattle.sql_parser.specs.Grammar.{is_ddl, BlockIs, EndedAre, Spells, Shallow, OfAnyDepth}
use Rattle.sql_parser.specs.Stops.{Refuses, WantsWords, IsStop}

-- The tokens are read as these statements exactly where they spell them, there are 256 at most, and each is one that a block keeps.
abbrev pub BlocksAreRead : Type 0
BlocksAreRead = (last : ℕ) (role : Role) (ts : Tokens) (ss : List StmtTree) → length ts < 2 ^ 32 →
    (block_at last role ts ≡ Ok ss) ↔ (BlockIs Shallow ts ss × (length ss ≤ MAX_STMTS) × (list_all (is_kept_in role) ss ≡ true))

-- some statement begins with these tokens, whatever its depth and its names
abbrev pub BeginsStatement : Tokens → Type 0
BeginsStatement front = (more : Tokens) × (s : StmtTree) × Spells OfAnyDepth (front ++ more) s

-- The tokens that were read begin a statement, whatever its depth and its names, and the next one is refused. Reading stops there too in each list that
-- has the same tokens up to there and the same next token; so no such list spells a statement that a block keeps.
pub record StopsFirst (last : ℕ) (role : Role) (ts : Tokens) (f : SqlFault) : Type 0 where
  pub front : Tokens
  pub rest : Tokens
  pub split : ts ≡ front ++ rest
  pub refuses : Refuses last OfAnyDepth (WantsWords ts) BeginsStatement front rest f
  pub begins : BeginsStatement front
  pub stays : (others : Tokens) → head others ≡ head rest → whole_at last role (front ++ others) ≡ Err f
  pub none : (others : Tokens) (s : StmtTree) → head others ≡ head rest → Spells Shallow (front ++ others) s → is_kept_in role s ≡ true → ⊥

-- What is no fault of one token: at its SELECT that of a whole query whose parts don't go together, and that of the keys of a whole table, at the first name
-- or key that is wrong.
pub data Excepted (last : ℕ) (ts : Tokens) (f : SqlFault) : Type 0 where
  whole_query : (select : At Token) (behind : Tokens) (query : SelectTree) →
      ts ≡ select ∷ behind → f ≡ LeftOut select.span.start → is_allowed query ≡ false → Spells OfAnyDepth ts (Selects query) →
      Excepted last ts f
  whole_table : (name : List ℕ) (table : TableRead) (place : ℕ) →
      f ≡ BadColumns place → keys_fault name (column_names table.columns) [] table.keys ≡ Some place → Spells OfAnyDepth ts (created name table) →
      Excepted last ts f

-- Where a statement is refused: at the first token that can't stand there, or as the exceptions say.
pub data Stops (last : ℕ) (role : Role) (ts : Tokens) (f : SqlFault) : Type 0 where
  at_token : StopsFirst last role ts f → Stops last role ts f
  elsewhere : Excepted last ts f → Stops last role ts f

-- A statement that is refused as Syntax, LeftOut, TooDeep or BadColumns is refused at its first fault. last is the text's length, or where the next
-- semicolon stands.
abbrev pub FaultsAreFirst : Type 0
FaultsAreFirst = (last : ℕ) (role : Role) (ts : Tokens) (f : SqlFault) → IsStop f → whole_at last role ts ≡ Err f → Stops last role ts f

-- The same of a block: the tokens that were read begin one, and no list that has them and the same next token is read as one. The next token is refused in the
-- statement that stands behind whole ones.
pub record BlockStopsFirst (last : ℕ) (role : Role) (ts : Tokens) (f : SqlFault) : Type 0 where
  pub front : Tokens
  pub rest : Tokens
  pub split : ts ≡ front ++ rest
  pub refuses : (before here : Tokens) × (ended : List StmtTree) × (front ≡ before ++ here) × EndedAre OfAnyDepth before ended
      × Refuses last OfAnyDepth (WantsWords (here ++ rest)) BeginsStatement here rest f
  pub begins : (more : Tokens) × (ss : List StmtTree) × BlockIs OfAnyDepth (front ++ more) ss
  pub none : (n : ℕ) (others : Tokens) (ss : List StmtTree) → head others ≡ head rest → length (front ++ others) < 2 ^ 32 →
      block_at n role (front ++ others) ≡ Ok ss → ⊥

pub data BlockStops (last : ℕ) (role : Role) (ts : Tokens) (f : SqlFault) : Type 0 where
  at_block_token : BlockStopsFirst last role ts f → BlockStops last role ts f
  in_a_statement : (before stmt behind : Tokens) → ts ≡ before ++ (stmt ++ behind) → Excepted (place_of last behind) stmt f → BlockStops last role ts f

-- A block that is refused as Syntax, LeftOut, TooDeep or BadColumns is refused at its first fault.
abbrev pub BlockFaultsAreFirst : Type 0
BlockFaultsAreFirst = (last : ℕ) (role : Role) (ts : Tokens) (f : SqlFault) → IsStop f → block_at last role ts ≡ Err f → BlockStops last role ts f

-- a session's block, where these tokens begin with CREATE or DROP, at this place
abbrev pub BeginsDdl : Role → Tokens → ℕ → Type 0
BeginsDdl role [] place = ⊥
BeginsDdl role (t ∷ ts) place = (is_session role ≡ true) × (is_ddl t.tok ≡ true) × (place ≡ t.span.start)

-- A statement is refused as DdlInSession exactly where it begins so.
abbrev pub DdlIsRefused : Type 0
DdlIsRefused = (last place : ℕ) (role : Role) (ts : Tokens) → (whole_at last role ts ≡ Err (DdlInSession place)) ↔ BeginsDdl role ts place

-- 256 statements that a block keeps, with a semicolon behind each, and the first token of one more, at this place
pub record BeginsOneMore (role : Role) (ts : Tokens) (place : ℕ) : Type 0 where
  pub front : Tokens
  pub first : At Token
  pub rest : Tokens
  pub split : ts ≡ front ++ first ∷ rest
  pub here : place ≡ first.span.start
  pub begins : is_sign signs.Semicolon first.tok ≡ false
  pub stmts : List StmtTree
  pub spells : EndedAre Shallow front stmts
  pub full : length stmts ≡ MAX_STMTS
  pub kept : list_all (is_kept_in role) stmts ≡ true

-- A block is refused as TooMany exactly there.
abbrev pub TooManyIsRefused : Type 0
TooManyIsRefused = (last place : ℕ) (role : Role) (ts : Tokens) → length ts < 2 ^ 32 →
    (block_at last role ts ≡ Err (TooMany place)) ↔ BeginsOneMore role ts place
