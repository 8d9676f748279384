-- Statements and blocks as the code reads them, piece by piece.
use Rattle.std.specs.Prelude.{◌≡◌, ℕ, suc, Bool, true, false, not, List, [], ◌∷◌, map, filter, Option, Some, None, Result, Err, if◌then◌else◌}
use Rattle.iso_lexer.specs.declared.sql_token.SqlSign.TheVariants as signs
use Rattle.sql_trees.specs.declared.fault.SqlFault.{SqlFault}
use Rattle.sql_trees.specs.declared.expr.AggKind.{AggKind}
use Rattle.sql_trees.specs.Statements.{StmtTree, ItemTree, KeyTree}
use Rattle.sql_trees.specs.Tokens.{Tokens}
use Rattle.sql_expressions.specs.Results.{◌>>=◌}
use Rattle.sql_expressions.specs.Readers.{is_sign, misplaced, Reader}
use Rattle.sql_blocks.specs.declared.block.Role.{Role}
use Rattle.sql_parser.specs.Inner.Blocks.{simple_of, begun_of, piece_at, stmts_at}
use Rattle.sql_parser.specs.Inner.Queries.{item_of}
use Rattle.sql_parser.specs.Tables.{KeyRead, resolved}

module _ (last : ℕ) where
  -- an item behind the open parenthesis of its aggregate
  abbrev pub agg_item_at : AggKind → Reader ItemTree
  agg_item_at k ts = item_of last (Some (k, ts)) ts

  abbrev pub simple_at : Reader StmtTree
  simple_at [] = Err (misplaced last [])
  simple_at (t ∷ ts) = simple_of last t.tok t ts

  abbrev pub begun_at : Reader (Result StmtTree SqlFault)
  begun_at [] = Err (misplaced last [])
  begun_at (t ∷ ts) = begun_of last t.tok t ts

-- the primary keys, or the others
abbrev pub is_kept_key : Bool → KeyRead → Bool
is_kept_key true k = k.primary
is_kept_key false k = not k.primary

abbrev pub resolved_keys : Bool → List (List ℕ) → List KeyRead → List KeyTree
resolved_keys primary columns ks = map (resolved columns) (filter (λ k. is_kept_key primary k) ks)

-- the statements of a block, behind these
abbrev pub block_from : ℕ → Role → List StmtTree → Tokens → Result (List StmtTree) SqlFault
block_from last role ss ts = stmts_at last role ss [] ts

-- how many tokens stand before the first semicolon
abbrev pub piece_len : Tokens → ℕ
piece_len [] = 0
piece_len (t ∷ ts) = if is_sign signs.Semicolon t.tok then 0 else suc (piece_len ts)

-- the tokens before the first semicolon, its place and the tokens behind it, so far as a block is concerned
abbrev pub SplitsAs : Tokens → Option (Tokens × ℕ × Tokens) → Type 0
SplitsAs ts None = (last : ℕ) (role : Role) (ss : List StmtTree) → block_from last role ss ts ≡ piece_at last role ss ts
SplitsAs ts (Some x) = (last : ℕ) (role : Role) (ss : List StmtTree) → block_from last role ss ts ≡ (piece_at x.1 role ss x.0 >>= λ more. block_from last role more x.2)
