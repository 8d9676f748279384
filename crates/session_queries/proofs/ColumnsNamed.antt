-- The first undefined column among expressions is the one that is found one expression after the other.
use Rattle.std.proofs.Common.{◌≡◌, ℕ, Bool, true, false, cond, not, ◌&&◌, List, [], ◌∷◌, ◌++◌, map, Some, None, refl, sym, ap, ◌∙◌, if◌then◌else◌}
use Rattle.std.specs.Prelude.{Option, bytes_eq, find, filter_map, flat_map, is_none, is_some, length, option_to_list, position, ℤ, pos, int_le, int_lt, nat_le, nat_lt, zero, suc}
use Rattle.std.specs.List.{cons_option}
use Rattle.std.specs.Option.{option_or}
use Rattle.std.proofs.lemmas.Grind.{flat_map-append}
use Rattle.std.proofs.lemmas.List.Folds.{find-append}
use Rattle.sql_trees.specs.Trees.{Tree, Trees}
use Rattle.sql_trees.specs.Trees as tree
use Rattle.sql_trees.specs.Statements.{ColumnTree, DeleteTree, ItemTree, OrderTree, SelectTree, SetTree, UpdateTree}
use Rattle.sql_trees.specs.Statements as item
use Rattle.sql_values.specs.Arithmetic.{signed}
use Rattle.sql_values.specs.Expressions.{Cols}
use Rattle.query_results.specs.Queries.{columns_named, columns_named_in, meant, returned_exprs, select_exprs, titles_of, undefined_among, wrong_position}
use Rattle.query_results.specs.Inner.Pieces.{item_exprs, key_number}
use Rattle.query_results.specs.Updates.{delete_exprs, update_exprs}
use Rattle.session_queries.specs.Inner.Undefined.{first_of, undefined_column, undefined_in_list, undefined_in_condition, undefined_in_item, undefined_in_changes, undefined_in_returned, undefined_in_rows, undefined_in_select, unlisted}

abbrev is_undefined : Cols → List ℕ → Bool
is_undefined cols name = is_none (position (λ c. bytes_eq name c.0) cols)

by_name : (name : List ℕ) (o : Option ℕ) → cond (is_none o) (Some name) None ≡ (if is_some o then None else Some name)
by_name name None = refl
by_name name (Some k) = refl

or_assoc : (a b c : Option (List ℕ)) → option_or (option_or a b) c ≡ option_or a (option_or b c)
or_assoc None b c = refl
or_assoc (Some name) b c = refl

mutual
  in_column : (cols : Cols) (e : Tree) → find (is_undefined cols) (columns_named e) ≡ undefined_column cols e
  in_column cols (tree.Column name) = by_name name (position (λ c. bytes_eq name c.0) cols)
  in_column cols (tree.Plus a) = in_column cols a
  in_column cols (tree.Minus a) = in_column cols a
  in_column cols (tree.Not a) = in_column cols a
  in_column cols (tree.Binary op a b) = find-append (is_undefined cols) (columns_named a) (columns_named b) ∙ λ i. option_or (in_column cols a i) (in_column cols b i)
  in_column cols (tree.Is a negated truth) = in_column cols a
  in_column cols (tree.In a negated items) = find-append (is_undefined cols) (columns_named a) (columns_named_in items) ∙ λ i. option_or (in_column cols a i) (in_list cols items i)
  in_column cols (tree.Between a negated low high) =
      find-append (is_undefined cols) (columns_named a ++ columns_named low) (columns_named high)
      ∙ ap (λ o. option_or o (find (is_undefined cols) (columns_named high))) (find-append (is_undefined cols) (columns_named a) (columns_named low))
      ∙ or_assoc (find (is_undefined cols) (columns_named a)) (find (is_undefined cols) (columns_named low)) (find (is_undefined cols) (columns_named high))
      ∙ λ i. option_or (in_column cols a i) (option_or (in_column cols low i) (in_column cols high i))
  in_column cols tree.Null = refl
  in_column cols (tree.Flag b) = refl
  in_column cols (tree.Number negative n) = refl
  in_column cols (tree.Text s) = refl

  in_list : (cols : Cols) (es : Trees) → find (is_undefined cols) (columns_named_in es) ≡ undefined_in_list cols es
  in_list cols tree.none = refl
  in_list cols (tree.more e rest) = find-append (is_undefined cols) (columns_named e) (columns_named_in rest) ∙ λ i. option_or (in_column cols e i) (in_list cols rest i)

among_each : {X : Type 0} (cols : Cols) (f : X → Tree) (xs : List X) → undefined_among cols (map f xs) ≡ first_of (λ x. undefined_column cols (f x)) xs
among_each cols f [] = refl
among_each cols f (x ∷ xs) =
    find-append (is_undefined cols) (columns_named (f x)) (flat_map columns_named (map f xs)) ∙ λ i. option_or (in_column cols (f x) i) (among_each cols f xs i)

among_both : (cols : Cols) (es fs : List Tree) → undefined_among cols (es ++ fs) ≡ option_or (undefined_among cols es) (undefined_among cols fs)
among_both cols es fs =
    ap (find (is_undefined cols)) (flat_map-append columns_named es fs) ∙ find-append (is_undefined cols) (flat_map columns_named es) (flat_map columns_named fs)

or_none : (o : Option (List ℕ)) → option_or o None ≡ o
or_none None = refl
or_none (Some name) = refl

among_one : (cols : Cols) (e : Tree) → undefined_among cols (e ∷ []) ≡ undefined_column cols e
among_one cols e = among_each cols (λ e. e) (e ∷ []) ∙ or_none (undefined_column cols e)

pub of_condition : (cols : Cols) (filter : Option Tree) → undefined_among cols (option_to_list filter) ≡ undefined_in_condition cols filter
of_condition cols None = refl
of_condition cols (Some e) = among_one cols e

of_item : (cols : Cols) (i : ItemTree) → undefined_among cols (item_exprs i) ≡ undefined_in_item cols i
of_item cols item.All = refl
of_item cols (item.Value e alias) = among_one cols e
of_item cols (item.Aggregate tree.CountRows alias) = refl
of_item cols (item.Aggregate (tree.Of k e) alias) = among_one cols e

of_items : (cols : Cols) (is : List ItemTree) → undefined_among cols (flat_map item_exprs is) ≡ first_of (undefined_in_item cols) is
of_items cols [] = refl
of_items cols (i ∷ is) = among_both cols (item_exprs i) (flat_map item_exprs is) ∙ λ j. option_or (of_item cols i j) (of_items cols is j)

pub of_select : (cols : Cols) (s : SelectTree) → undefined_among cols (select_exprs s) ≡ undefined_in_select cols s
of_select cols s =
    let keys = map (λ (k : OrderTree). meant s.items k.expr) s.order in
    among_both cols (flat_map item_exprs s.items ++ option_to_list s.filter) keys
    ∙ ap (λ o. option_or o (undefined_among cols keys)) (among_both cols (flat_map item_exprs s.items) (option_to_list s.filter))
    ∙ or_assoc (undefined_among cols (flat_map item_exprs s.items)) (undefined_among cols (option_to_list s.filter)) (undefined_among cols keys)
    ∙ λ i. option_or (of_items cols s.items i) (option_or (of_condition cols s.filter i) (among_each cols (λ (k : OrderTree). meant s.items k.expr) s.order i))

of_changes : (cols : Cols) (u : UpdateTree) → undefined_among cols (map (λ (s : SetTree). s.value) u.sets ++ option_to_list u.filter) ≡ undefined_in_changes cols u
of_changes cols u =
    among_both cols (map (λ (s : SetTree). s.value) u.sets) (option_to_list u.filter)
    ∙ λ i. option_or (among_each cols (λ (s : SetTree). s.value) u.sets i) (of_condition cols u.filter i)

pub of_returned : (cols : Cols) (items : Option (List ItemTree)) → undefined_among cols (returned_exprs items) ≡ undefined_in_returned cols items
of_returned cols None = refl
of_returned cols (Some items) = of_items cols items

pub of_update : (cols : Cols) (u : UpdateTree) → undefined_among cols (update_exprs u) ≡ option_or (undefined_in_changes cols u) (undefined_in_returned cols u.returning)
of_update cols u =
    among_both cols (map (λ (s : SetTree). s.value) u.sets ++ option_to_list u.filter) (returned_exprs u.returning)
    ∙ λ i. option_or (of_changes cols u i) (of_returned cols u.returning i)

pub of_delete : (cols : Cols) (d : DeleteTree) → undefined_among cols (delete_exprs d) ≡ option_or (undefined_in_condition cols d.filter) (undefined_in_returned cols d.returning)
of_delete cols d = among_both cols (option_to_list d.filter) (returned_exprs d.returning) ∙ λ i. option_or (of_condition cols d.filter i) (of_returned cols d.returning i)

among_all : (es : List Tree) → undefined_among [] es ≡ first_of (undefined_column []) es
among_all [] = refl
among_all (e ∷ es) = find-append (is_undefined []) (columns_named e) (flat_map columns_named es) ∙ λ i. option_or (in_column [] e i) (among_all es i)

pub of_rows : (rows : List (List Tree)) → undefined_among [] (flat_map (λ row. row) rows) ≡ undefined_in_rows rows
of_rows [] = refl
of_rows (row ∷ rows) = among_both [] row (flat_map (λ row. row) rows) ∙ λ i. option_or (among_all row i) (of_rows rows i)

-- ---- positions

listed : (w : ℕ) (negative : Bool) (n : ℕ) → (int_lt (pos 0) (signed negative n) && int_le (signed negative n) (pos w)) ≡ (not negative && nat_lt 0 n && nat_le n w)
listed w true zero = refl
listed w true (suc n) = refl
listed w false n = refl

by_number : (b : Bool) (n : ℤ) (rest : Option ℤ) → cond (not b) (Some n) rest ≡ option_or (if b then None else Some n) rest
by_number true n rest = refl
by_number false n rest = refl

by_key : (w : ℕ) (e : Tree) (ns : List ℤ)
    → find (λ n. not (int_lt (pos 0) n && int_le n (pos w))) (cons_option (key_number e) ns) ≡ option_or (unlisted w e) (find (λ n. not (int_lt (pos 0) n && int_le n (pos w))) ns)
by_key w (tree.Number negative n) ns =
    by_number (int_lt (pos 0) (signed negative n) && int_le (signed negative n) (pos w)) (signed negative n) _
    ∙ ap (λ (b : Bool). option_or (if b then None else Some (signed negative n)) (find (λ n. not (int_lt (pos 0) n && int_le n (pos w))) ns)) (listed w negative n)
by_key w e ns = refl

of_keys : (w : ℕ) (order : List OrderTree)
    → find (λ n. not (int_lt (pos 0) n && int_le n (pos w))) (filter_map (λ (k : OrderTree). key_number k.expr) order) ≡ first_of (λ (k : OrderTree). unlisted w k.expr) order
of_keys w [] = refl
of_keys w (k ∷ order) =
    by_key w k.expr (filter_map (λ (k : OrderTree). key_number k.expr) order) ∙ ap (option_or (unlisted w k.expr)) (of_keys w order)

pub of_position : (columns : List ColumnTree) (s : SelectTree) → wrong_position columns s ≡ first_of (λ (k : OrderTree). unlisted (length (titles_of columns s.items)) k.expr) s.order
of_position columns s = of_keys (length (titles_of columns s.items)) s.order

-- ---- what is found so is the answer

pub select_answer : (cols : Cols) (s : SelectTree) (o : Option (List ℕ)) → o ≡ undefined_in_select cols s → o ≡ undefined_among cols (select_exprs s)
select_answer cols s o h = h ∙ sym (of_select cols s)

-- what is found of the other parts, or else of RETURNING
pub delete_answer : (cols : Cols) (d : DeleteTree) (o : Option (List ℕ)) → o ≡ option_or (undefined_in_condition cols d.filter) (undefined_in_returned cols d.returning)
    → o ≡ undefined_among cols (delete_exprs d)
delete_answer cols d o h = h ∙ sym (of_delete cols d)

pub rows_answer : (rows : List (List Tree)) (o : Option (List ℕ)) → o ≡ undefined_in_rows rows → o ≡ undefined_among [] (flat_map (λ row. row) rows)
rows_answer rows o h = h ∙ sym (of_rows rows)

pub position_answer : (columns : List ColumnTree) (s : SelectTree) (o : Option ℤ)
    → o ≡ first_of (λ (k : OrderTree). unlisted (length (titles_of columns s.items)) k.expr) s.order → o ≡ wrong_position columns s
position_answer columns s o h = h ∙ sym (of_position columns s)
