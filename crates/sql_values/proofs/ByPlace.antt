-- An expression by place has its value by name.
use Rattle.std.proofs.Common.{◌≡◌, ℕ, ◌<◌, List, [], length, Some, Ok, refl, ap, ◌∙◌, sym, arith}
use Rattle.std.specs.Prelude.{Option, position, bytes_eq, slice_get, unwrap_or, option_and_then, ok_or}
use Rattle.std.proofs.lemmas.List.Quantifiers.{position-Some}
use Rattle.std.proofs.lemmas.Option.{slice_get-get_or}
use Rattle.sql_trees.specs.declared.kind.Kind.TheVariants as kind
use Rattle.sql_values.specs.declared.value.Value.TheVariants.{Null}
use Rattle.sql_values.specs.declared.fault.ValueFault.TheVariants.{NoColumn}
use Rattle.sql_trees.specs.declared.expr.Operator.{Operator}
use Rattle.sql_trees.specs.declared.expr.Operator.TheVariants.{Or, And, Equal, NotEqual, Less, AtMost, Greater, AtLeast, Concat, Add, Subtract, Multiply, Divide, Remainder}
use Rattle.sql_trees.specs.Trees.{Tree}
use Rattle.sql_trees.specs.Trees as tree
use Rattle.sql_values.specs.declared.value.Value.{Value}
use Rattle.sql_values.specs.Values.{Answer}
use Rattle.sql_values.specs.Expressions.{Cols, value}
use Rattle.sql_values.specs.Sorting.{key}
use Rattle.sql_values.specs.Inner.Connectives.{binary}

abbrev answered : List ℕ → Option Value → Answer
answered name found = ok_or found (NoColumn name)

-- the column of that name is found at its place
pub at_its_place : (name : List ℕ) (cols : Cols) (place : ℕ) → position (λ c. bytes_eq name c.0) cols ≡ Some place
    → (row : List Value) → length row ≡ length cols → Ok (key place row) ≡ value (tree.Column name) cols row
at_its_place name cols place found row long =
    let within : place < length cols = (position-Some (λ c. bytes_eq name c.0) cols place ([], kind.Int) found).0 in
    let here = slice_get-get_or row place Null (omega arith) in
    ap (λ (o : Option Value). answered name (Some (unwrap_or o Null))) here
    ∙ sym (ap (λ (p : Option ℕ). answered name (option_and_then (slice_get row) p)) found ∙ ap (answered name) here)

-- an operator on the values of two expressions is the value of the operator on both
pub of_both : (op : Operator) (a b : Tree) (cols : Cols) (row : List Value) → value (tree.Binary op a b) cols row ≡ binary op (value a cols row) (value b cols row)
of_both Or a b cols row = refl
of_both And a b cols row = refl
of_both Equal a b cols row = refl
of_both NotEqual a b cols row = refl
of_both Less a b cols row = refl
of_both AtMost a b cols row = refl
of_both Greater a b cols row = refl
of_both AtLeast a b cols row = refl
of_both Concat a b cols row = refl
of_both Add a b cols row = refl
of_both Subtract a b cols row = refl
of_both Multiply a b cols row = refl
of_both Divide a b cols row = refl
of_both Remainder a b cols row = refl
