-- To be believed. What the conditions of a block on its statements are said by; reading goes by the same.
use Rattle.std.specs.Prelude.{ℕ, Bool, true, false, not, ◌||◌, ◌&&◌, ◌==◌, List, [], map, Option, is_some}
use Rattle.std.specs.List.{list_any, list_all}
use Rattle.std.specs.Option.{option_map_or}
use Rattle.sql_trees.specs.Statements.{ColumnTree, SetTree, ItemTree, All, Aggregate, SelectTree}
use Rattle.sql_blocks.specs.declared.block.Role.{Role}
use Rattle.sql_blocks.specs.declared.block.Role.TheVariants as roles

abbrev pub is_session : Role → Bool
is_session role = elim role [ roles.Session ↦ true | roles.Main ↦ false ]

abbrev pub column_names : List ColumnTree → List (List ℕ)
column_names cs = map (λ c. c.name) cs

abbrev pub fits : Option ℕ → ℕ → Bool
fits width n = option_map_or (λ m. m == n) width true

abbrev pub set_columns : List SetTree → List (List ℕ)
set_columns ss = map (λ s. s.column) ss

-- ---- what has to hold of a whole query

abbrev pub is_aggregate : ItemTree → Bool
is_aggregate i = elim i [ Aggregate a n ↦ true | other ↦ false ]

-- aggregates stand alone and go with no ORDER BY and no lock; a star and a lock go with a table
abbrev pub is_allowed : SelectTree → Bool
is_allowed s = (not (list_any is_aggregate s.items) || (list_all is_aggregate s.items && not (elim s.order [ [] ↦ false | keys ↦ true ] || is_some s.lock)))
    && (is_some s.table || not (list_any (λ i. elim i [ All ↦ true | other ↦ false ]) s.items || is_some s.lock))
