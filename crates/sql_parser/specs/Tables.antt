-- To be believed. CREATE TABLE and DROP TABLE (PostgreSQL manual: CREATE TABLE, DROP TABLE).
use Rattle.std.specs.Prelude.{ℕ, zero, suc, Bool, true, false, not, ◌||◌, ◌&&◌, List, [], ◌∷◌, ◌++◌, length, map, filter, find, bytes_eq}
use Rattle.std.specs.Prelude.{Option, None, option_map, Ok, Err, if◌then◌else◌}
use Rattle.std.specs.List.{list_any, position_or_len}
use Rattle.std.specs.Option.{option_or, option_map_or}
use Rattle.iso_lexer.specs.declared.sql_token.SqlSign.TheVariants as signs
use Rattle.sql_trees.specs.declared.fault.SqlFault.TheVariants.{BadColumns}
use Rattle.sql_trees.specs.declared.word.Word.TheVariants as words
use Rattle.sql_trees.specs.declared.kind.Kind.TheVariants as kinds
use Rattle.sql_trees.specs.Statements.{StmtTree, ColumnTree, KeyTree, Create, DropTables, key_name}
use Rattle.iso_lexer.specs.Results.{if_ok}
use Rattle.sql_expressions.specs.Readers.{after, place_of, expect, is_sign, is_word, Reader, gives, made, either, keyword, closed, name_at, items_at, ◌>>=◌, ◌>>◌}
use Rattle.sql_blocks.specs.Parts.{column_names}
use Rattle.sql_parser.specs.Readers.{list_of, known_of, whole}

-- the name is one of these
abbrev pub has_name : List ℕ → List (List ℕ) → Bool
has_name n ns = list_any (λ m. bytes_eq m n) ns

-- ---- what is read

-- a name, and where it stands
pub record Placed : Type 0 where
  pub name : List ℕ
  pub place : ℕ

-- a key as it is written
pub record KeyRead : Type 0 where
  pub primary : Bool
  pub columns : List Placed

-- the columns and keys of a table as they are written
pub record TableRead : Type 0 where
  pub columns : List ColumnTree
  pub keys : List KeyRead

abbrev pub placed_names : List Placed → List (List ℕ)
placed_names ns = map (λ n. n.name) ns

abbrev pub with_key : Bool → List Placed → TableRead → TableRead
with_key primary columns t = record t { keys = t.keys ++ (record { primary = primary; columns = columns }) ∷ [] }

module _ (last : ℕ) where
  -- a name that is none of these
  abbrev pub new_name : List (List ℕ) → Reader Placed
  new_name names ts =
      if_ok (name_at last ts) (λ x. if has_name x.0 names then Err (BadColumns (place_of last ts)) else Ok (record { name = x.0; place = place_of last ts }, x.1))

  -- names that all differ, behind an open parenthesis
  unfoldable pub names_at : Reader (List Placed)
  names_at = closed last (λ ns. ns) (list_of (λ ns. new_name (placed_names ns)))

  -- behind PRIMARY KEY or UNIQUE, what is read of such a key, else what others read
  abbrev pub key_or : {X : Type 0} → (Bool → Reader X) → Reader X → Reader X
  key_or key others = either (is_word words.Primary) (keyword last words.Key >> key true) (either (is_word words.Unique) (key false) others)

  -- the table with this column, behind which NOT NULL, PRIMARY KEY and UNIQUE stand, so many times at most; the name stands beside its place
  unfoldable pub constraints_at : Placed → ℕ → ColumnTree → TableRead → Reader TableRead
  constraints_at name zero c t = gives (record t { columns = t.columns ++ c ∷ [] })
  constraints_at name (suc n) c t = either (is_word words.Not) (keyword last words.Null >> constraints_at name n (record c { not_null = true }) t)
      (key_or (λ primary. constraints_at name n c (with_key primary (name ∷ []) t)) (gives (record t { columns = t.columns ++ c ∷ [] })))

  -- one more column, whose name may not stand there twice
  unfoldable pub column_read : TableRead → Reader TableRead
  column_read t = do
    name ← new_name (column_names t.columns)
    kind ← known_of last ((words.Integer, kinds.Int) ∷ (words.Bigint, kinds.Big) ∷ (words.Text, kinds.Text) ∷ (words.Boolean, kinds.Bool) ∷ [])
    λ ts. constraints_at name (length ts) (record { name = name.name; kind = kind; not_null = false }) t ts

  -- one more column or key
  unfoldable pub table_add : TableRead → Reader TableRead
  table_add t = key_or (λ primary. expect last (is_sign signs.Open) >> made (λ ns. with_key primary ns t) names_at) (column_read t)

-- ---- what has to hold of the whole

-- the place of the first column of the keys, in the order of the text, that the table lacks, or whose key has a name that was made earlier
unfoldable pub keys_fault : List ℕ → List (List ℕ) → List (List ℕ) → List KeyRead → Option ℕ
keys_fault table columns earlier [] = None
keys_fault table columns earlier (k ∷ ks) =
    let name = key_name table k.primary (placed_names k.columns) in
    let wrong = find (λ n. has_name name earlier || not (has_name n.name columns)) k.columns in
    option_or (option_map (λ n. n.place) wrong) (keys_fault table columns (earlier ++ name ∷ []) ks)

-- a column of a primary key is NOT NULL
abbrev pub completed : List KeyRead → ColumnTree → ColumnTree
completed ks c = record c { not_null = c.not_null || list_any (λ k. k.primary && has_name c.name (placed_names k.columns)) ks }

-- a key with its columns' places in the table, counted from 0
abbrev pub resolved : List (List ℕ) → KeyRead → KeyTree
resolved columns k = record { primary = k.primary; columns = map (λ n. position_or_len (λ m. bytes_eq m n.name) columns) k.columns }

-- the table of these columns and keys: the primary key stands first, then the others in the order of the text
abbrev pub created : List ℕ → TableRead → StmtTree
created name t =
    let keys = filter (λ k. k.primary) t.keys ++ filter (λ k. not k.primary) t.keys in
    Create (record { name = name; columns = map (completed t.keys) t.columns; keys = map (resolved (column_names t.columns)) keys })

-- ---- statements

module _ (last : ℕ) where
  -- what stands behind CREATE
  unfoldable pub create_at : Reader StmtTree
  create_at = do
    keyword last words.Table
    name ← name_at last
    expect last (is_sign signs.Open)
    table ← closed last (λ t. t) (items_at (table_add last) (record { columns = []; keys = [] }))
    whole last (option_map BadColumns (keys_fault name (column_names table.columns) [] table.keys))
    gives (created name table)

  -- the tables that a DROP names
  abbrev pub dropped_at : Bool → Reader StmtTree
  dropped_at if_exists = made (λ ns. DropTables (record { if_exists = if_exists; names = ns })) (list_of (λ ns. name_at last))

  -- what stands behind DROP: IF is a name where no EXISTS follows
  unfoldable pub drop_at : Reader StmtTree
  drop_at = keyword last words.Table >> λ ts. option_map_or (dropped_at true) (either (is_word words.If) (after (is_word words.Exists)) (λ us. None) ts) (dropped_at false ts)
