-- What a key or an item means once its columns are looked up.
use Rattle.std.proofs.Common.{◌≡◌, ℕ, ◌<◌, List, [], ◌∷◌, length, map, get_or, Some, Ok, refl, ap, sym, ◌∙◌, arith}
use Rattle.std.specs.Prelude.{Any, Result, unwrap_or}
use Rattle.std.proofs.lemmas.List.{get_or-map, length-map}
use Rattle.sql_trees.specs.Trees.{Tree, tree_of}
use Rattle.sql_trees.specs.Trees as tree
use Rattle.sql_trees.specs.Statements.{ItemTree}
use Rattle.sql_trees.specs.Statements as item
use Rattle.sql_values.specs.declared.value.Value.{Value}
use Rattle.sql_values.specs.declared.fault.ValueFault.{ValueFault}
use Rattle.sql_values.specs.Bound.{BoundExpr, bound_tree}
use Rattle.sql_values.specs.Values.{if_ok}
use Rattle.sql_values.specs.Expressions.{Cols, value}
use Rattle.session_queries.specs.Inner.Answers.{item_bound, item_row}
use Rattle.session_queries.specs.Inner.Ordering.{key_answer, key_bound}
use Rattle.session_queries.specs.Inner.Undefined.{aliased}

abbrev value_of : List Value → Tree × Cols → Result Value ValueFault
value_of row b = value b.0 b.1 row

-- the value of a key is that of what is bound for it
pub key_meant : (cols : Cols) (is : List ItemTree) (row : List Value) (e : Tree) (b : BoundExpr) → Some (bound_tree b) ≡ key_bound cols is e → value (tree_of b.expr) b.columns row ≡ key_answer cols is row e
key_meant cols is row (tree.Number negative n) b h = absurd cc
key_meant cols is row (tree.Column name) b h =
    let same : bound_tree b ≡ (unwrap_or (aliased is name) (tree.Column name), cols) = cc in
    ap (value_of row) same
key_meant cols is row e b h =
    let same : bound_tree b ≡ (e, cols) = cc in
    ap (value_of row) same

-- so is what an item shows
pub item_meant : (cols : Cols) (row : List Value) (i : ItemTree) (b : BoundExpr) → Some (bound_tree b) ≡ item_bound cols i
    → item_row cols row i ≡ if_ok (value (tree_of b.expr) b.columns row) (λ v. Ok (v ∷ []))
item_meant cols row item.All b h = absurd cc
item_meant cols row (item.Value e alias) b h =
    let same : bound_tree b ≡ (e, cols) = cc in
    sym (ap (λ (a : Tree × Cols). if_ok (value_of row a) (λ v. Ok (v ∷ []))) same)
item_meant cols row (item.Aggregate a alias) b h = absurd cc

-- what stands at a place of two lists that are one in other words is one in other words
pub one_at : {A B C D : Type 0} (f : A → C) (g : B → D) (h : D → C) (xs : List A) (ys : List B) (i : ℕ) (x : A) (y : B) → map f xs ≡ map h (map g ys) → i < length ys
    → x ≡ get_or xs i x → y ≡ get_or ys i y → f x ≡ h (g y)
one_at f g h xs ys i x y same less here there =
    let long : length xs ≡ length ys = sym (length-map xs f) ∙ ap length same ∙ length-map (map g ys) h ∙ length-map ys g in
    let within : i < length xs = omega arith in
    let mapped : i < length (map g ys) = rw (length-map ys g) less in
    ap f here ∙ sym (get_or-map f xs i x (f x) within) ∙ ap (λ zs. get_or zs i (f x)) same ∙ get_or-map h (map g ys) i (g y) (f x) mapped
    ∙ ap h (get_or-map g ys i y (g y) less ∙ ap g (sym there))

-- one of the rows is so where all are, and there is one
pub some_row : {R : Type 0} (P : R → Type 0) (rows : List R) → 0 < length rows → ((r : R) → P r) → Any P rows
some_row P [] h all = absurd (omega arith)
some_row P (r ∷ rows) h all = (0, r, h, refl, all r)
