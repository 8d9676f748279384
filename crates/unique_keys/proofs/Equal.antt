-- Values of two rows that are there and equal.
use Rattle.std.proofs.Common.{◌≡◌, refl, ap, Bool, false, ℕ, List}
use mathlib.Core.Path.{fun_ext}
use Rattle.std.specs.Prelude.{Option, Some, None, unwrap_or, slice_get}
use Rattle.std.specs.List.{list_all}
use Rattle.std.specs.Option.{option_map_or}
use Rattle.std.specs.Ordering.{is_eq, is_some_and}
use Rattle.std.specs.declared.cmp.Ordering.{Ordering}
use Rattle.sql_values.specs.declared.value.Value.{Value}
use Rattle.sql_values.specs.declared.value.Value.TheVariants.{Null, Int, Big, Text, Bool as Boolean}
use Rattle.sql_values.specs.Values.{compare}
use Rattle.sql_values.specs.Sorting.{key}
use Rattle.unique_keys.specs.Inner.Finding.{agree, are_equal}

tested : (o : Option Ordering) → option_map_or is_eq o false ≡ is_some_and is_eq o
tested None = refl
tested (Some o) = refl

with_null : (v : Value) → false ≡ is_some_and is_eq (compare v Null)
with_null Null = refl
with_null (Int z) = refl
with_null (Big z) = refl
with_null (Text s) = refl
with_null (Boolean b) = refl

equal_at : (a b : Option Value) → are_equal a b ≡ is_some_and is_eq (compare (unwrap_or a Null) (unwrap_or b Null))
equal_at None None = refl
equal_at None (Some b) = refl
equal_at (Some a) None = with_null a
equal_at (Some a) (Some b) = tested (compare a b)

pub agree_is : (columns : List ℕ) (asked values : List Value) → agree columns asked values ≡ list_all (λ column. is_some_and is_eq (compare (key column asked) (key column values))) columns
agree_is columns asked values = ap (λ (test : ℕ → Bool). list_all test columns) (fun_ext (λ column. equal_at (slice_get asked column) (slice_get values column)))
