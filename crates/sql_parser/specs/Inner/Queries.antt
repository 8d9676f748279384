-- SELECT as the code reads it.
use Rattle.std.specs.Prelude.{ℕ, Bool, true, false, List, [], ◌∷◌, ◌++◌, Option, Some, None, Result, Ok, Err, option_map, if◌then◌else◌}
use Rattle.std.specs.Option.{option_map_or}
use Rattle.iso_lexer.specs.declared.sql_token.SqlSign.TheVariants as signs
use Rattle.sql_trees.specs.declared.fault.SqlFault.{SqlFault}
use Rattle.sql_trees.specs.declared.fault.SqlFault.TheVariants.{LeftOut}
use Rattle.sql_trees.specs.declared.word.Word.TheVariants as words
use Rattle.sql_trees.specs.declared.expr.AggKind.{AggKind}
use Rattle.sql_trees.specs.declared.expr.AggKind.TheVariants as aggs
use Rattle.sql_trees.specs.declared.stmt.Lock.{Lock}
use Rattle.sql_trees.specs.declared.stmt.Strength.{Strength}
use Rattle.sql_trees.specs.declared.stmt.Strength.TheVariants as strengths
use Rattle.sql_trees.specs.declared.stmt.Policy.{Policy}
use Rattle.sql_trees.specs.Statements.{StmtTree, ItemTree, All, Value, Aggregate, OrderTree, SelectTree, Selects}
use Rattle.sql_trees.specs.Tokens.{Tokens, named}
use Rattle.sql_trees.specs.Trees.{AggTree, CountRows, Of}
use Rattle.sql_expressions.specs.Readers.{after, expect, is_sign, is_word, Reader, gives, made, either, by_first, keyword, closed, name_at, items_at, ◌>>=◌, ◌>>◌, added}
use Rattle.sql_expressions.specs.Reading.{agg_kind}
use Rattle.sql_blocks.specs.Parts.{is_allowed}
use Rattle.sql_parser.specs.Readers.{maybe, tree_at}
use Rattle.sql_parser.specs.Changes.{alias_at, filter_at}
use Rattle.sql_parser.specs.Queries.{policy_at}

-- an aggregate's name with an open parenthesis behind it, and the tokens behind that
abbrev pub call_at : Tokens → Option (AggKind × Tokens)
call_at = by_first agg_kind (λ k ts. option_map (λ us. (k, us)) (after (is_sign signs.Open) ts)) (λ ts. None)

-- the star of count(*)
abbrev pub counts_rows : AggKind → Tokens → Option Tokens
counts_rows aggs.Count ts = after (is_sign signs.Star) ts
counts_rows _ ts = None

-- the name that stands next, if one does
abbrev pub maybe_name : Reader (Option (List ℕ))
maybe_name = by_first named (λ n. gives (Some n)) (gives None)

-- ASC, DESC or none of them: whether sorting goes down
unfoldable pub direction_at : Reader Bool
direction_at = either (is_word words.Asc) (gives false) (either (is_word words.Desc) (gives true) (gives false))

-- a lock of these parts
abbrev pub lock_of : Strength → Policy → Lock
lock_of s p = record { strength = s; policy = p }

module _ (last : ℕ) where
  -- an aggregate behind its open parenthesis
  unfoldable pub agg_at : AggKind → Reader AggTree
  agg_at k ts = option_map_or (expect last (is_sign signs.Close) >> gives CountRows) (counts_rows k ts) (closed last (Of k) (tree_at last) ts)

  -- an aggregate or an expression, and the name given to it
  abbrev pub item_of : Option (AggKind × Tokens) → Reader ItemTree
  item_of (Some c) ts = (agg_at c.0 >>= λ a. made (Aggregate a) (alias_at last)) c.1
  item_of None ts = (tree_at last >>= λ e. made (Value e) (alias_at last)) ts

  -- an item of a SELECT
  unfoldable pub item_at : Reader ItemTree
  item_at = either (is_sign signs.Star) (gives All) (λ ts. item_of (call_at ts) ts)

  -- FROM and its table, if any
  unfoldable pub from_at : Reader (Option (List ℕ))
  from_at = maybe (is_word words.From) (name_at last)

  -- NULLS FIRST or NULLS LAST; else NULL is sorted as the greatest value
  unfoldable pub nulls_at : Bool → Reader Bool
  nulls_at down = either (is_word words.Nulls) (either (is_word words.First) (gives true) (keyword last words.Last >> gives false)) (gives down)

  -- one more key of ORDER BY
  unfoldable pub order_add : List OrderTree → Reader (List OrderTree)
  order_add ks = do
    e ← tree_at last
    desc ← direction_at
    gives (ks ++ (record { expr = e; dir = record { desc = desc; nulls_first = (← nulls_at desc) } }) ∷ [])

  -- ORDER BY and its keys, if any
  unfoldable pub order_at : Reader (List OrderTree)
  order_at = either (is_word words.Order) (keyword last words.By >> items_at order_add []) (gives [])

  -- UPDATE or SHARE
  abbrev pub update_or_share : Reader Strength
  update_or_share = either (is_word words.Update) (gives strengths.Update) (keyword last words.Share >> gives strengths.Share)

  -- how strongly the rows are locked: UPDATE, NO KEY UPDATE, SHARE or KEY SHARE
  unfoldable pub strength_at : Reader Strength
  strength_at = either (is_word words.No) (keyword last words.Key >> (keyword last words.Update >> gives strengths.NoKeyUpdate)) (either (is_word words.Key) (keyword last words.Share >> gives strengths.KeyShare) update_or_share)

  -- FOR with how the rows are locked, if any
  unfoldable pub lock_at : Reader (Option Lock)
  lock_at = either (is_word words.For) (strength_at >>= λ s. made (λ p. Some (lock_of s p)) (policy_at last)) (gives None)

-- ---- what has to hold of the whole

abbrev pub query_of : ℕ → SelectTree → Result StmtTree SqlFault
query_of place s = if is_allowed s then Ok (Selects s) else Err (LeftOut place)

module _ (last : ℕ) where
  -- what stands behind a SELECT at this place
  unfoldable pub select_at : ℕ → Reader (Result StmtTree SqlFault)
  select_at place = do
    items ← items_at (added (item_at last)) []
    table ← from_at last
    filter ← filter_at last
    gives (query_of place (record { items = items; table = table; filter = filter; order = (← order_at last); lock = (← lock_at last) }))
