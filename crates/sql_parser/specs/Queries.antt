-- To be believed. SELECT (PostgreSQL manual: SELECT).
use Rattle.std.specs.Prelude.{ℕ, true, false, [], ◌∷◌, Some, None, if◌then◌else◌}
use Rattle.iso_lexer.specs.declared.sql_token.SqlSign.TheVariants as signs
use Rattle.sql_trees.specs.declared.fault.SqlFault.TheVariants.{LeftOut}
use Rattle.sql_trees.specs.declared.word.Word.TheVariants as words
use Rattle.sql_trees.specs.declared.expr.AggKind.{AggKind}
use Rattle.sql_trees.specs.declared.expr.AggKind.TheVariants as aggs
use Rattle.sql_trees.specs.declared.stmt.Lock.{Lock}
use Rattle.sql_trees.specs.declared.stmt.Strength.{Strength}
use Rattle.sql_trees.specs.declared.stmt.Strength.TheVariants as strengths
use Rattle.sql_trees.specs.declared.stmt.Policy.{Policy}
use Rattle.sql_trees.specs.declared.stmt.Policy.TheVariants as policies
use Rattle.iso_lexer.specs.Bytes.{row_of}
use Rattle.sql_trees.specs.Statements.{StmtTree, ItemTree, All, Value, Aggregate, OrderTree, SelectTree, Selects}
use Rattle.sql_trees.specs.Trees.{AggTree, CountRows, Of}
use Rattle.sql_expressions.specs.Readers.{is_sign, is_word, Reader, gives, made, either, by_first, keyword, closed, name_at, ◌>>=◌, ◌>>◌}
use Rattle.sql_expressions.specs.Reading.{agg_kind}
use Rattle.sql_blocks.specs.Parts.{is_allowed}
use Rattle.sql_parser.specs.Readers.{maybe, list_of, one_of, tree_at, whole}
use Rattle.sql_parser.specs.Changes.{alias_at, filter_at}

module _ (last : ℕ) where
  -- an aggregate behind its open parenthesis: COUNT may have a star there
  unfoldable pub call_at : AggKind → Reader AggTree
  call_at aggs.Count = closed last (λ a. a) (either (is_sign signs.Star) (gives CountRows) (made (Of aggs.Count) (tree_at last)))
  call_at k = closed last (Of k) (tree_at last)

  -- an item of a SELECT: a star, an aggregate or an expression
  unfoldable pub item_at : Reader ItemTree
  item_at ts =
      let value : Reader ItemTree = tree_at last >>= λ e. made (Value e) (alias_at last) in
      either (is_sign signs.Star) (gives All) (by_first agg_kind
      (λ k. either (is_sign signs.Open) (call_at k >>= λ a. made (Aggregate a) (alias_at last)) (λ us. value ts)) value) ts

  -- a key of ORDER BY: without NULLS FIRST or LAST, NULL is sorted as the greatest value
  unfoldable pub sort_key_at : Reader OrderTree
  sort_key_at = do
    e ← tree_at last
    desc ← by_first (row_of is_word ((words.Asc, false) ∷ (words.Desc, true) ∷ [])) gives (gives false)
    nulls_first ← either (is_word words.Nulls) (one_of last ((words.First, true) ∷ (words.Last, false) ∷ [])) (gives desc)
    gives (record { expr = e; dir = record { desc = desc; nulls_first = nulls_first } })

  -- how strongly the rows are locked: UPDATE, NO KEY UPDATE, SHARE or KEY SHARE
  unfoldable pub strength_at : Reader Strength
  strength_at = either (is_word words.No) (keyword last words.Key >> (keyword last words.Update >> gives strengths.NoKeyUpdate))
      (either (is_word words.Key) (keyword last words.Share >> gives strengths.KeyShare) (one_of last ((words.Update, strengths.Update) ∷ (words.Share, strengths.Share) ∷ [])))

  -- what is done at a row that others hold: NOWAIT, SKIP LOCKED, or it is waited for
  unfoldable pub policy_at : Reader Policy
  policy_at = either (is_word words.NoWait) (gives policies.NoWait) (either (is_word words.Skip) (keyword last words.Locked >> gives policies.SkipLocked) (gives policies.Wait))

  -- how a SELECT locks its rows, behind FOR
  unfoldable pub lock_behind : Reader Lock
  lock_behind = strength_at >>= λ s. made (λ p. record { strength = s; policy = p }) policy_at

  -- what stands behind a SELECT at this place
  unfoldable pub select_at : ℕ → Reader StmtTree
  select_at place = do
    items ← list_of (λ items. item_at)
    table ← maybe (is_word words.From) (name_at last)
    filter ← filter_at last
    order ← either (is_word words.Order) (keyword last words.By >> list_of (λ keys. sort_key_at)) (gives [])
    lock ← maybe (is_word words.For) lock_behind
    let query : SelectTree = record { items = items; table = table; filter = filter; order = order; lock = lock } in
        (whole last (if is_allowed query then None else Some (LeftOut place)) >> gives (Selects query))
