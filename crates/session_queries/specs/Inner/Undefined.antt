-- Columns that are named and aren't there, as they are found one expression after the other.
use Rattle.std.specs.Prelude.{ℕ, ◌&&◌, not, nat_le, nat_lt, ℤ, List, [], ◌∷◌, Option, Some, None, bytes_eq, is_some, position, if◌then◌else◌}
use Rattle.std.specs.Option.{option_or}
use Rattle.sql_trees.specs.Trees.{Tree, Trees, AggTree}
use Rattle.sql_trees.specs.Trees as tree
use Rattle.sql_trees.specs.Statements.{ItemTree, OrderTree, SelectTree, SetTree, UpdateTree}
use Rattle.sql_trees.specs.Statements as stmt
use Rattle.sql_values.specs.Arithmetic.{signed}
use Rattle.sql_values.specs.Expressions.{Cols}
use Rattle.query_results.specs.Queries.{meant}

-- the first answer that is one
abbrev pub first_of : {A B : Type 0} → (A → Option B) → List A → Option B
first_of f [] = None
first_of f (x ∷ xs) = option_or (f x) (first_of f xs)

-- the expression of the first item that has this alias
abbrev pub aliased : List ItemTree → List ℕ → Option Tree
aliased [] name = None
aliased (stmt.Value e (Some alias) ∷ is) name = if bytes_eq name alias then Some e else aliased is name
aliased (i ∷ is) name = aliased is name

abbrev mutual
  -- the first column that an expression names and that isn't there
  pub undefined_column : Cols → Tree → Option (List ℕ)
  undefined_column cols (tree.Column name) = if is_some (position (λ c. bytes_eq name c.0) cols) then None else Some name
  undefined_column cols (tree.Plus a) = undefined_column cols a
  undefined_column cols (tree.Minus a) = undefined_column cols a
  undefined_column cols (tree.Not a) = undefined_column cols a
  undefined_column cols (tree.Binary op a b) = option_or (undefined_column cols a) (undefined_column cols b)
  undefined_column cols (tree.Is a negated truth) = undefined_column cols a
  undefined_column cols (tree.In a negated items) = option_or (undefined_column cols a) (undefined_in_list cols items)
  undefined_column cols (tree.Between a negated low high) = option_or (undefined_column cols a) (option_or (undefined_column cols low) (undefined_column cols high))
  undefined_column cols literal = None

  pub undefined_in_list : Cols → Trees → Option (List ℕ)
  undefined_in_list cols tree.none = None
  undefined_in_list cols (tree.more e rest) = option_or (undefined_column cols e) (undefined_in_list cols rest)

-- the same of WHERE, which may be left out
abbrev pub undefined_in_condition : Cols → Option Tree → Option (List ℕ)
undefined_in_condition cols None = None
undefined_in_condition cols (Some e) = undefined_column cols e

-- of an item, of its aggregate, and of a key where the items lack none
abbrev pub undefined_in_item : Cols → ItemTree → Option (List ℕ)
undefined_in_item cols (stmt.Value e alias) = undefined_column cols e
undefined_in_item cols (stmt.Aggregate (tree.Of k e) alias) = undefined_column cols e
undefined_in_item cols i = None

abbrev pub undefined_in_agg : Cols → AggTree → Option (List ℕ)
undefined_in_agg cols a = undefined_in_item cols (stmt.Aggregate a None)

abbrev pub undefined_in_key : Cols → List ItemTree → Tree → Option (List ℕ)
undefined_in_key cols is (tree.Column name) = if is_some (aliased is name) then None else undefined_column cols (tree.Column name)
undefined_in_key cols is e = undefined_column cols e

-- of the rows of VALUES, and of whole statements
abbrev pub undefined_in_rows : List (List Tree) → Option (List ℕ)
undefined_in_rows rows = first_of (first_of (undefined_column [])) rows

abbrev pub undefined_in_select : Cols → SelectTree → Option (List ℕ)
undefined_in_select cols s =
    option_or (first_of (undefined_in_item cols) s.items) (option_or (undefined_in_condition cols s.filter) (first_of (λ (k : OrderTree). undefined_column cols (meant s.items k.expr)) s.order))

abbrev pub undefined_in_returned : Cols → Option (List ItemTree) → Option (List ℕ)
undefined_in_returned cols None = None
undefined_in_returned cols (Some items) = first_of (undefined_in_item cols) items

abbrev pub undefined_in_changes : Cols → UpdateTree → Option (List ℕ)
undefined_in_changes cols u = option_or (first_of (λ (s : SetTree). undefined_column cols s.value) u.sets) (undefined_in_condition cols u.filter)

-- the number that a key is, if it is one and none of the result's columns, which are counted from 1
abbrev pub unlisted : ℕ → Tree → Option ℤ
unlisted width (tree.Number negative n) = if not negative && nat_lt 0 n && nat_le n width then None else Some (signed negative n)
unlisted width e = None
