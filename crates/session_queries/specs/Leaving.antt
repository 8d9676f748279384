-- What is evaluated to see whether an UPDATE leaves its keys.
use Rattle.std.specs.Prelude.{ℕ, ◌==◌, Bool, List, filter, zip}
use Rattle.std.specs.List.{list_any}
use Rattle.sql_trees.specs.Statements.{SetTree}
use Rattle.sql_values.specs.Growing.{may_grow}
use Rattle.query_results.specs.Queries.{AssignedColumn}

-- some expression that is assigned to one of these columns may ask for memory
abbrev pub some_may_grow : List AssignedColumn → List SetTree → List ℕ → Bool
some_may_grow to sets places = list_any (λ s. may_grow s.1.value) (filter (λ s. list_any (λ place. place == s.0.place) places) (zip to sets))
