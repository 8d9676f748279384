-- To be believed. The result of a query, as contracts see it.
use Rattle.std.specs.Prelude.{◌≡◌, List, length, All}
use Rattle.sql_values.specs.declared.value.Value.{Value}
use Rattle.query_results.specs.declared.title.Title.{Title}

-- the columns' titles, and the rows
pub record Results : Type 0 where
  pub titles : List Title
  pub rows : List (List Value)

-- each row is as long as the titles
abbrev pub IsEven : List Title → List (List Value) → Type 0
IsEven titles rows = All (λ row. length row ≡ length titles) rows
