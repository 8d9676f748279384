-- CREATE TABLE and DROP TABLE as the code reads them.
use Rattle.std.specs.Prelude.{ℕ, zero, suc, Bool, true, false, not, List, [], ◌∷◌, ◌++◌, length, map, filter, find, slice_index, bytes_eq}
use Rattle.std.specs.Prelude.{Option, Some, None, option_map, Result, Ok, Err, if◌then◌else◌}
use Rattle.std.specs.List.{position_or_len}
use Rattle.std.specs.Option.{option_or, option_map_or}
use Rattle.iso_lexer.specs.declared.sql_token.SqlSign.TheVariants as signs
use Rattle.sql_trees.specs.declared.fault.SqlFault.{SqlFault}
use Rattle.sql_trees.specs.declared.fault.SqlFault.TheVariants.{BadColumns}
use Rattle.sql_trees.specs.declared.word.Word.TheVariants as words
use Rattle.sql_trees.specs.declared.kind.Kind.{Kind}
use Rattle.sql_trees.specs.Statements.{StmtTree, KeyTree, Create, key_name}
use Rattle.sql_trees.specs.Tokens.{Tokens}
use Rattle.sql_expressions.specs.Results.{◌>>=◌ as and_then}
use Rattle.sql_expressions.specs.Readers.{after, place_of, expect, is_sign, is_word, Reader, gives, made, either, one_at, keyword, closed, name_at, items_at, ◌>>=◌, ◌>>◌}
use Rattle.sql_blocks.specs.Parts.{column_names}
use Rattle.sql_parser.specs.Grammar.{Constraints, empty_table, with_column, key_limit, kind_of}
use Rattle.sql_parser.specs.Tables.{has_name, Placed, KeyRead, TableRead, placed_names, with_key, completed, resolved, created}
use Rattle.sql_parser.specs.Inner.Parts.{misplaced_word}

-- the tokens behind IF EXISTS
abbrev pub after_if : Tokens → Option Tokens
after_if = either (is_word words.If) (after (is_word words.Exists)) (λ ts. None)

module _ (last : ℕ) where
  -- a name that is none of these, and what is read behind it
  abbrev pub new_name : {X : Type 0} → List (List ℕ) → (Placed → Reader X) → Reader X
  new_name names next ts =
      and_then (name_at last ts) (λ x. if has_name x.0 names then Err (BadColumns (place_of last ts)) else next (record { name = x.0; place = place_of last ts }) x.1)

  abbrev pub kind_at : Reader Kind
  kind_at = one_at (misplaced_word last) kind_of

  -- one more column of a key, which may not stand there twice
  abbrev pub key_add : List Placed → Reader (List Placed)
  key_add ns = new_name (placed_names ns) (λ n. gives (ns ++ n ∷ []))

  -- the columns of a key in parentheses
  unfoldable pub key_at : Bool → TableRead → Reader TableRead
  key_at primary t = expect last (is_sign signs.Open) >> closed last (λ ns. with_key primary ns t) (items_at key_add [])

  -- NOT NULL, PRIMARY KEY and UNIQUE behind a column, so many times at most
  unfoldable pub constraints_at : Placed → ℕ → Constraints → Reader Constraints
  constraints_at c zero s ts = Ok (s, ts)
  constraints_at c (suc n) s ts =
      either (is_word words.Not) (keyword last words.Null >> constraints_at c n (record s { not_null = true }))
      (either (is_word words.Primary) (keyword last words.Key >> constraints_at c n (key_limit true c s))
      (either (is_word words.Unique) (constraints_at c n (key_limit false c s)) (gives s))) ts

  -- a column's kind and all that is said of it, behind the keys before it
  unfoldable pub limits_at : Placed → List KeyRead → Reader (Kind × Constraints)
  limits_at c keys = do
    kind ← kind_at
    gives (kind, (← λ ts. constraints_at c (length ts) (record { not_null = false; keys = keys }) ts))

  -- a column behind its name
  unfoldable pub column_behind : Placed → TableRead → Reader TableRead
  column_behind c t = made (λ x. with_column c x.0 x.1 t) (limits_at c t.keys)

  -- a column, whose name may not stand there twice
  unfoldable pub column_read : TableRead → Reader TableRead
  column_read t = new_name (column_names t.columns) (λ c. column_behind c t)

  -- one more column or key
  unfoldable pub table_add : TableRead → Reader TableRead
  table_add t = either (is_word words.Primary) (keyword last words.Key >> key_at true t) (either (is_word words.Unique) (key_at false t) (column_read t))

-- ---- what has to hold of the whole

abbrev pub made_name : List ℕ → KeyRead → List ℕ
made_name table k = key_name table k.primary (placed_names k.columns)

-- where the first column stands that is none of these
abbrev pub first_lacking : List (List ℕ) → List Placed → Option ℕ
first_lacking columns ns = option_map (λ n. n.place) (find (λ n. not (has_name n.name columns)) ns)

-- the place of the fault of a key with this name: of its first column, if the name was made before, else of the first column that the table lacks
unfoldable pub text_fault : List ℕ → List (List ℕ) → List (List ℕ) → KeyRead → Option ℕ
text_fault name columns earlier k = if has_name name earlier then Some (slice_index (map (λ n. n.place) k.columns) 0) else first_lacking columns k.columns

-- the place of the first fault of the keys, in the order of the text; earlier are the names made before
unfoldable pub keys_fault : List ℕ → List (List ℕ) → List (List ℕ) → List KeyRead → Option ℕ
keys_fault table columns earlier [] = None
keys_fault table columns earlier (k ∷ ks) = option_or (text_fault (made_name table k) columns earlier k) (keys_fault table columns (earlier ++ made_name table k ∷ []) ks)

-- the place of the first column of this name, counted from 0
abbrev pub place_among : List (List ℕ) → List ℕ → ℕ
place_among columns n = position_or_len (λ m. bytes_eq m n) columns

-- the primary key first, then the others in the order of the text
abbrev pub declared : List (List ℕ) → List KeyRead → List KeyTree
declared columns ks = map (resolved columns) (filter (λ k. k.primary) ks) ++ map (resolved columns) (filter (λ k. not k.primary) ks)

-- the table of these columns and keys: a column of a primary key is NOT NULL, and the primary key stands first
abbrev pub table_of : List ℕ → TableRead → StmtTree
table_of name t = Create (record { name = name; columns = map (completed t.keys) t.columns; keys = declared (column_names t.columns) t.keys })

-- the table as it was read, or the fault of its keys
unfoldable pub finished : List ℕ → TableRead → Result StmtTree SqlFault
finished name t = option_map_or (λ place. Err (BadColumns place)) (keys_fault name (column_names t.columns) [] t.keys) (Ok (created name t))

-- ---- statements

module _ (last : ℕ) where
  -- what stands behind CREATE
  unfoldable pub create_at : Reader (Result StmtTree SqlFault)
  create_at = do
    keyword last words.Table
    name ← name_at last
    expect last (is_sign signs.Open)
    closed last (finished name) (items_at (table_add last) empty_table)
