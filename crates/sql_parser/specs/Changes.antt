-- To be believed. INSERT, UPDATE and DELETE (PostgreSQL manual: INSERT, UPDATE, DELETE).
use Rattle.std.specs.Prelude.{ℕ, Bool, true, false, ◌==◌, List, length, map, Option, Some, None, option_map, Result, Err, if◌then◌else◌}
use Rattle.std.specs.List.{slice_get}
use Rattle.std.specs.Option.{option_or, option_map_or}
use Rattle.iso_lexer.specs.declared.sql_token.SqlSign.TheVariants as signs
use Rattle.sql_trees.specs.declared.fault.SqlFault.{SqlFault}
use Rattle.sql_trees.specs.declared.fault.SqlFault.TheVariants.{Syntax, LeftOut}
use Rattle.sql_trees.specs.declared.word.Word.TheVariants as words
use Rattle.sql_trees.specs.declared.word.Word.{Word}
use Rattle.sql_trees.specs.Statements.{StmtTree, SetTree, ItemTree, All, Value, Inserts, Updates, Deletes}
use Rattle.sql_trees.specs.Tokens.{Token, Tokens, named}
use Rattle.sql_trees.specs.Trees.{Tree}
use Rattle.sql_expressions.specs.Readers.{place_of, expect, is_sign, is_word, Reader, gives, made, either, by_first, keyword, closed, name_at, ◌>>=◌, ◌>>◌}
use Rattle.sql_parser.specs.Readers.{maybe, list_of, tree_at}
use Rattle.sql_parser.specs.Tables.{placed_names, new_name, names_at}

module _ (last : ℕ) where
  -- the name given to an item, with or without AS
  unfoldable pub alias_at : Reader (Option (List ℕ))
  alias_at = either (is_word words.As) (made (λ n. Some n) (name_at last)) (by_first named (λ n. gives (Some n)) (gives None))

  -- a row of VALUES, which has to have so many of them
  unfoldable pub row_at : Option ℕ → Reader (List Tree)
  row_at width ts = (do
    expect last (is_sign signs.Open)
    values ← closed last (λ vs. vs) (list_of (λ vs. tree_at last))
    if option_map_or (λ n. n == length values) width true then gives values else (λ rest. Err (Syntax (place_of last ts)))) ts

  -- the tokens behind this keyword; a token of the kind that may stand there in PostgreSQL is left out
  abbrev pub keyword_not : (Token → Bool) → Word → Tokens → Result Tokens SqlFault
  keyword_not other w ts = either other (λ rest. Err (LeftOut (place_of last ts))) (keyword last w) ts

  -- ON CONFLICT DO NOTHING, or nothing
  unfoldable pub conflict_at : Reader Bool
  conflict_at = either (is_word words.On)
      (keyword last words.Conflict >> (keyword_not (is_sign signs.Open) words.Do >> (keyword_not (is_word words.Update) words.Nothing >> gives true))) (gives false)

  -- an item of RETURNING: a star or an expression
  unfoldable pub returned_at : Reader ItemTree
  returned_at = either (is_sign signs.Star) (gives All) (tree_at last >>= λ e. made (Value e) alias_at)

  -- RETURNING and its items, if any
  unfoldable pub returning_at : Reader (Option (List ItemTree))
  returning_at = maybe (is_word words.Returning) (list_of (λ items. returned_at))

  -- what stands behind INSERT: each row has as many values as columns are listed, else as many as the first
  unfoldable pub insert_at : Reader StmtTree
  insert_at = do
    keyword last words.Into
    table ← name_at last
    columns ← maybe (is_sign signs.Open) (made placed_names (names_at last))
    keyword last words.Values
    rows ← list_of (λ rows. row_at (option_or (option_map length columns) (option_map length (slice_get rows 0))))
    do_nothing ← conflict_at
    gives (Inserts (record { table = table; columns = columns; rows = rows; do_nothing = do_nothing; returning = (← returning_at) }))

  -- WHERE and its condition, if any
  unfoldable pub filter_at : Reader (Option Tree)
  filter_at = maybe (is_word words.Where) (tree_at last)

  -- a column, which none of these is, with its new value
  unfoldable pub one_set : List SetTree → Reader SetTree
  one_set sets = do
    column ← new_name last (map (λ set. set.column) sets)
    expect last (is_sign signs.Equal)
    gives (record { column = column.name; value = (← tree_at last) })

  -- what stands behind UPDATE
  unfoldable pub update_at : Reader StmtTree
  update_at = do
    table ← name_at last
    keyword last words.Set
    gives (Updates (record { table = table; sets = (← list_of one_set); filter = (← filter_at); returning = (← returning_at) }))

  -- what stands behind DELETE
  unfoldable pub delete_at : Reader StmtTree
  delete_at = do
    keyword last words.From
    gives (Deletes (record { table = (← name_at last); filter = (← filter_at); returning = (← returning_at) }))
