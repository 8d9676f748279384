-- INSERT, UPDATE and DELETE as the code reads them.
use Rattle.std.specs.Prelude.{ℕ, List, [], ◌∷◌, ◌++◌, length, Option, Some, None, option_map, Result, Ok, Err, if◌then◌else◌}
use Rattle.iso_lexer.specs.declared.sql_token.SqlSign.TheVariants as signs
use Rattle.sql_trees.specs.declared.fault.SqlFault.TheVariants.{Syntax}
use Rattle.sql_trees.specs.declared.word.Word.TheVariants as words
use Rattle.sql_trees.specs.declared.fault.SqlFault.{SqlFault}
use Rattle.sql_trees.specs.Statements.{StmtTree, SetTree, ItemTree, Inserts, Updates, Deletes}
use Rattle.sql_trees.specs.Tokens.{Tokens}
use Rattle.sql_expressions.specs.Readers.{place_of, expect, is_sign, is_word, Reader, gives, made, either, keyword, closed, name_at, items_at, ◌>>=◌, ◌>>◌, added}
use Rattle.sql_blocks.specs.Parts.{fits, set_columns}
use Rattle.sql_parser.specs.Readers.{maybe, tree_at}
use Rattle.sql_parser.specs.Grammar.{Rows}
use Rattle.sql_parser.specs.Changes.{conflict_at, filter_at, keyword_not, returned_at}
use Rattle.sql_parser.specs.Inner.Tables.{new_name}

module _ (last : ℕ) where
  -- one more name, which may not stand there twice
  abbrev pub distinct_add : List (List ℕ) → Reader (List (List ℕ))
  distinct_add ns = new_name last ns (λ n. gives (ns ++ n.name ∷ []))

  -- one more row, which has to have as many values as those before it
  unfoldable pub row_add : Rows → Reader Rows
  row_add s ts = (expect last (is_sign signs.Open) >> (do
    values ← items_at (added (tree_at last)) []
    expect last (is_sign signs.Close)
    λ rest. if fits s.width (length values) then Ok (record { rows = s.rows ++ values ∷ []; width = Some (length values) }, rest) else Err (Syntax (place_of last ts)))) ts

  -- the columns in parentheses, if any
  unfoldable pub columns_at : Reader (Option (List (List ℕ)))
  columns_at = either (is_sign signs.Open) (closed last (λ ns. Some ns) (items_at distinct_add [])) (gives None)

  -- a DO, where a `(` is left out
  abbrev pub do_at : Tokens → Result Tokens SqlFault
  do_at = keyword_not last (is_sign signs.Open) words.Do

  -- a NOTHING, where UPDATE is left out
  abbrev pub nothing_at : Tokens → Result Tokens SqlFault
  nothing_at = keyword_not last (is_word words.Update) words.Nothing

  -- RETURNING and its items, if any
  unfoldable pub returning_at : Reader (Option (List ItemTree))
  returning_at = maybe (is_word words.Returning) (items_at (added (returned_at last)) [])

  -- what stands behind INSERT
  unfoldable pub insert_at : Reader StmtTree
  insert_at = do
    keyword last words.Into
    table ← name_at last
    columns ← columns_at
    keyword last words.Values
    read ← items_at row_add (record { rows = []; width = option_map length columns })
    do_nothing ← conflict_at last
    gives (Inserts (record { table = table; columns = columns; rows = read.rows; do_nothing = do_nothing; returning = (← returning_at) }))

  -- the new value of a column of this name
  abbrev pub set_value : List ℕ → List SetTree → Reader (List SetTree)
  set_value n ss = expect last (is_sign signs.Equal) >> made (λ e. ss ++ (record { column = n; value = e }) ∷ []) (tree_at last)

  -- one more column with its new value; the column may not stand there twice
  unfoldable pub set_add : List SetTree → Reader (List SetTree)
  set_add ss = new_name last (set_columns ss) (λ n. set_value n.name ss)

  -- what stands behind UPDATE
  unfoldable pub update_at : Reader StmtTree
  update_at = do
    table ← name_at last
    keyword last words.Set
    gives (Updates (record { table = table; sets = (← items_at set_add []); filter = (← filter_at last); returning = (← returning_at) }))

  -- what stands behind DELETE
  unfoldable pub delete_at : Reader StmtTree
  delete_at = do
    keyword last words.From
    gives (Deletes (record { table = (← name_at last); filter = (← filter_at last); returning = (← returning_at) }))
