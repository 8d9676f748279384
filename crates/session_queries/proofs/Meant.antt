-- A key that means an item lacks nothing where no item does.
use Rattle.std.proofs.Common.{◌≡◌, ℕ, Bool, true, false, List, [], ◌∷◌, Some, None, Ok, Err, refl, sym, ap, ◌∙◌, subst, if◌then◌else◌}
use Rattle.std.specs.Prelude.{Option, Result, bytes_eq, is_some, unwrap_or}
use Rattle.std.specs.Option.{option_or}
use Rattle.sql_trees.specs.Trees.{Tree}
use Rattle.sql_trees.specs.Trees as tree
use Rattle.sql_trees.specs.Statements.{ItemTree, OrderTree}
use Rattle.sql_trees.specs.Statements as item
use Rattle.sql_values.specs.declared.value.Value.{Value}
use Rattle.sql_values.specs.declared.fault.ValueFault.{ValueFault}
use Rattle.sql_values.specs.Values.{each}
use Rattle.sql_values.specs.Expressions.{Cols, value}
use Rattle.query_results.specs.Queries.{key_value, meant}
use Rattle.query_results.specs.Inner.Pieces.{keys_of}
use Rattle.session_queries.specs.Inner.Fronts.{in_front}
use Rattle.session_queries.specs.Inner.Ordering.{key_answer, key_answers}
use Rattle.session_queries.specs.Inner.Undefined.{first_of, undefined_column, undefined_in_item, undefined_in_key, aliased}

by_test : (b : Bool) (x key m : Tree) (o : Option Tree) → m ≡ unwrap_or o key → (if b then x else m) ≡ unwrap_or (if b then Some x else o) key
by_test true x key m o h = refl
by_test false x key m o h = h

-- a bare name means what has it as its alias
meant_name : (is : List ItemTree) (name : List ℕ) → meant is (tree.Column name) ≡ unwrap_or (aliased is name) (tree.Column name)
meant_name [] name = refl
meant_name (item.All ∷ is) name = meant_name is name
meant_name (item.Value x None ∷ is) name = meant_name is name
meant_name (item.Value x (Some alias) ∷ is) name = by_test (bytes_eq name alias) x (tree.Column name) (meant is (tree.Column name)) (aliased is name) (meant_name is name)
meant_name (item.Aggregate a alias ∷ is) name = meant_name is name

abbrev is_name : Tree → Bool
is_name (tree.Column name) = true
is_name e = false

-- any other key means itself
meant_other : (is : List ItemTree) (e : Tree) → is_name e ≡ false → meant is e ≡ e
meant_other [] e h = refl
meant_other (item.All ∷ is) e h = meant_other is e h
meant_other (item.Value x None ∷ is) e h = meant_other is e h
meant_other (item.Value x (Some alias) ∷ is) (tree.Column name) h = absurd cc
meant_other (item.Value x (Some alias) ∷ is) e h = meant_other is e h
meant_other (item.Aggregate a alias ∷ is) e h = meant_other is e h

key_read : (cols : Cols) (is : List ItemTree) (row : List Value) (e : Tree) → key_value cols is row e ≡ key_answer cols is row e
key_read cols is row (tree.Number negative n) = refl
key_read cols is row (tree.Column name) = ap (λ e. value e cols row) (meant_name is name)
key_read cols is row e = ap (λ x. value x cols row) (meant_other is e refl)

none_in_front : (r : Result (List Value) ValueFault) → r ≡ in_front [] r
none_in_front (Ok xs) = refl
none_in_front (Err e) = refl

pub keys_front : (cols : Cols) (is : List ItemTree) (order : List OrderTree) (row front : List Value) → front ≡ [] → keys_of cols is order row ≡ in_front front (key_answers cols is order row)
keys_front cols is order row front none =
    (λ j. each (λ (k : OrderTree). key_read cols is row k.expr j) order) ∙ none_in_front (key_answers cols is order row) ∙ ap (λ (xs : List Value). in_front xs (key_answers cols is order row)) (sym none)

neither : (o rest : Option (List ℕ)) → option_or o rest ≡ None → (o ≡ None) × (rest ≡ None)
neither None rest h = (refl, h)
neither (Some name) rest h = absurd cc

by_name : (cols : Cols) (b : Bool) (x e : Tree) (rest : Option Tree) → (if b then Some x else rest) ≡ Some e → undefined_column cols x ≡ None → (rest ≡ Some e → undefined_column cols e ≡ None) → undefined_column cols e ≡ None
by_name cols true x e rest at none later =
    let same : x ≡ e = cc in
    subst (λ y. undefined_column cols y ≡ None) same none
by_name cols false x e rest at none later = later at

alias_known : (cols : Cols) (is : List ItemTree) (name : List ℕ) (e : Tree) → first_of (undefined_in_item cols) is ≡ None → aliased is name ≡ Some e → undefined_column cols e ≡ None
alias_known cols [] name e none at = absurd cc
alias_known cols (item.All ∷ is) name e none at = alias_known cols is name e none at
alias_known cols (item.Value x None ∷ is) name e none at = alias_known cols is name e (neither (undefined_column cols x) (first_of (undefined_in_item cols) is) none).1 at
alias_known cols (item.Value x (Some alias) ∷ is) name e none at =
    let both = neither (undefined_column cols x) (first_of (undefined_in_item cols) is) none in
    by_name cols (bytes_eq name alias) x e (aliased is name) at both.0 (alias_known cols is name e both.1)
alias_known cols (item.Aggregate tree.CountRows alias ∷ is) name e none at = alias_known cols is name e none at
alias_known cols (item.Aggregate (tree.Of k x) alias ∷ is) name e none at =
    alias_known cols is name e (neither (undefined_column cols x) (first_of (undefined_in_item cols) is) none).1 at

by_alias : (cols : Cols) (is : List ItemTree) (name : List ℕ) (o : Option Tree) → aliased is name ≡ o → first_of (undefined_in_item cols) is ≡ None
    → (if is_some o then None else undefined_column cols (tree.Column name)) ≡ undefined_column cols (unwrap_or o (tree.Column name))
by_alias cols is name None at none = refl
by_alias cols is name (Some e) at none = sym (alias_known cols is name e none at)

key_means : (cols : Cols) (is : List ItemTree) (e : Tree) → first_of (undefined_in_item cols) is ≡ None → undefined_in_key cols is e ≡ undefined_column cols (meant is e)
key_means cols is (tree.Column name) none = by_alias cols is name (aliased is name) refl none ∙ sym (ap (undefined_column cols) (meant_name is name))
key_means cols is e none = sym (ap (undefined_column cols) (meant_other is e refl))

pub keys_mean : (cols : Cols) (is : List ItemTree) (order : List OrderTree) → first_of (undefined_in_item cols) is ≡ None
    → first_of (λ (k : OrderTree). undefined_in_key cols is k.expr) order ≡ first_of (λ (k : OrderTree). undefined_column cols (meant is k.expr)) order
keys_mean cols is order none = λ j. first_of (λ (k : OrderTree). key_means cols is k.expr none j) order
