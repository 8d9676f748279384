-- What a block keeps of its statements.
use Rattle.std.specs.Prelude.{ℕ, suc, ◌^◌, max, nat_lt, ◌==◌, Bool, true, false, not, ◌&&◌, List, [], ◌∷◌, length, map, get_or, bytes_eq, Option, Some, None, option_map}
use Rattle.std.specs.List.{list_any, list_all}
use Rattle.iso_lexer.specs.declared.limits.TheConstants.{MAX_DEPTH}
use Rattle.sql_trees.specs.Trees.{Tree, Trees, none, more, Plus, Minus, Not, Binary, Is, In, Between, CountRows, Of}
use Rattle.sql_trees.specs.Statements.{StmtTree, Create, DropTables, Inserts, Updates, Deletes, Selects, CreateTree, InsertTree, UpdateTree, SelectTree}
use Rattle.sql_trees.specs.Statements.{KeyTree, ItemTree, All, Value, Aggregate, key_name}
use Rattle.sql_blocks.specs.declared.block.Role.{Role}
use Rattle.sql_blocks.specs.Parts.{is_session, column_names, fits, set_columns, is_aggregate, is_allowed}

-- ---- expressions

abbrev mutual
  -- how deep a tree is: 0 for a literal or a name, one more than its deepest part for a sign, NOT, IS and each operator
  pub tree_depth : Tree → ℕ
  tree_depth (Plus e) = suc (tree_depth e)
  tree_depth (Minus e) = suc (tree_depth e)
  tree_depth (Not e) = suc (tree_depth e)
  tree_depth (Binary o a b) = suc (max (tree_depth a) (tree_depth b))
  tree_depth (Is e negated truth) = suc (tree_depth e)
  tree_depth (In e negated es) = suc (max (tree_depth e) (trees_depth es))
  tree_depth (Between e negated low high) = suc (max (tree_depth e) (max (tree_depth low) (tree_depth high)))
  tree_depth _ = 0

  pub trees_depth : Trees → ℕ
  trees_depth none = 0
  trees_depth (more e es) = max (tree_depth e) (trees_depth es)

abbrev pub is_shallow : Tree → Bool
is_shallow e = nat_lt (tree_depth e) (suc MAX_DEPTH)

abbrev pub maybe_shallow : Option Tree → Bool
maybe_shallow None = true
maybe_shallow (Some e) = is_shallow e

abbrev pub item_shallow : ItemTree → Bool
item_shallow All = true
item_shallow (Value e alias) = is_shallow e
item_shallow (Aggregate CountRows alias) = true
item_shallow (Aggregate (Of kind e) alias) = is_shallow e

-- ---- names and places

-- no name stands there twice
abbrev pub all_differ : List (List ℕ) → Bool
all_differ [] = true
all_differ (n ∷ ns) = not (list_any (bytes_eq n) ns) && all_differ ns

-- no place stands there twice
abbrev pub places_differ : List ℕ → Bool
places_differ [] = true
places_differ (k ∷ ks) = not (list_any (λ m. k == m) ks) && places_differ ks

-- the columns at these places
abbrev pub names_among : List (List ℕ) → List ℕ → List (List ℕ)
names_among columns ks = map (λ k. get_or columns k []) ks

-- ---- statements

-- each place of a key is one of so many columns, and stands there once
abbrev pub key_fits : ℕ → KeyTree → Bool
key_fits n k = list_all (λ c. nat_lt c n) k.columns && places_differ k.columns

abbrev pub tree_name : List ℕ → List (List ℕ) → KeyTree → List ℕ
tree_name table columns k = key_name table k.primary (names_among columns k.columns)

-- columns and keys are fewer than 2 ^ 32, and the columns and the names that the keys are given all differ
abbrev pub table_kept : CreateTree → Bool
table_kept c =
    (nat_lt (length c.columns) (2 ^ 32) && nat_lt (length c.keys) (2 ^ 32))
    && (all_differ (column_names c.columns)
    && (list_all (key_fits (length c.columns)) c.keys && all_differ (map (tree_name c.name (column_names c.columns)) c.keys)))

-- each row has as many values as there are columns in the list, or else as the row before it
abbrev pub rows_fit : Option ℕ → List (List Tree) → Bool
rows_fit width [] = true
rows_fit width (r ∷ rs) = fits width (length r) && rows_fit (Some (length r)) rs

abbrev pub columns_differ : Option (List (List ℕ)) → Bool
columns_differ None = true
columns_differ (Some ns) = all_differ ns

-- an item of RETURNING is no aggregate
abbrev pub returned_kept : ItemTree → Bool
returned_kept i = not (is_aggregate i) && item_shallow i

abbrev pub returning_kept : Option (List ItemTree) → Bool
returning_kept None = true
returning_kept (Some items) = list_all returned_kept items

abbrev pub insert_kept : InsertTree → Bool
insert_kept i = columns_differ i.columns && (rows_fit (option_map length i.columns) i.rows && (list_all (list_all is_shallow) i.rows && returning_kept i.returning))

abbrev pub update_kept : UpdateTree → Bool
update_kept u = all_differ (set_columns u.sets) && (list_all (λ s. is_shallow s.value) u.sets && (maybe_shallow u.filter && returning_kept u.returning))

abbrev pub select_kept : SelectTree → Bool
select_kept s = is_allowed s && (list_all item_shallow s.items && (maybe_shallow s.filter && list_all (λ k. is_shallow k.expr) s.order))

abbrev pub is_kept : StmtTree → Bool
is_kept (Create c) = table_kept c
is_kept (Inserts i) = insert_kept i
is_kept (Updates u) = update_kept u
is_kept (Deletes d) = maybe_shallow d.filter && returning_kept d.returning
is_kept (Selects s) = select_kept s
is_kept _ = true

-- a statement that makes or drops a table
abbrev pub makes_or_drops : StmtTree → Bool
makes_or_drops (Create c) = true
makes_or_drops (DropTables d) = true
makes_or_drops _ = false

-- a session's block makes and drops no table
abbrev pub is_kept_in : Role → StmtTree → Bool
is_kept_in role s = is_kept s && not (is_session role && makes_or_drops s)
