-- How a statement begins at its table, and goes on there.
use Rattle.std.specs.Prelude.{ℕ, List, [], ◌∷◌, Bool, true, false, not, ◌||◌, ◌&&◌, Option, Some, None, is_some}
use Rattle.std.specs.Option.{option_map_or}
use Rattle.sql_trees.specs.Statements.{StmtTree, Inserts, Updates, Deletes, Selects}
use Rattle.sql_values.specs.declared.value.Value.{Value}
use Rattle.session_machine.specs.declared.session.OpenTransaction.{OpenTransaction}
use Rattle.session_machine.specs.Tables.{Database, find_table}
use Rattle.session_machine.specs.Statements.{Effect}
use Rattle.session_machine.specs.Views.{rows_shown}
use Rattle.session_machine.specs.Rows.{Work, columns_in, walk_of}
use Rattle.session_machine.specs.Running.{at_once, fault_in, leads_to}
use Rattle.session_machine.specs.Inner.Pieces.{table_columns}

-- the statement goes over its targets, from this place on; one that has none answers at once
abbrev pub go_from : Database → Work → StmtTree → ℕ → List (List Value) → Effect
go_from db w stmt place rows =
    option_map_or (leads_to db w stmt) (walk_of w stmt (record { db = db; place = place; rows = rows; stop = None }))
    (at_once db w.t (columns_in db w) (rows_shown db.content w.view w.table) stmt)

abbrev pub has_targets : StmtTree → Bool
has_targets (Inserts i) = true
has_targets (Updates u) = true
has_targets (Deletes d) = true
has_targets (Selects s) = is_some s.lock
has_targets stmt = false

-- it assigns columns, which are looked for before any row
abbrev pub assigns : StmtTree → Bool
assigns (Inserts i) = true
assigns (Updates u) = true
assigns stmt = false

-- the statement comes to the rows of its table, or looks for the columns that it assigns
abbrev pub reaches : Database → StmtTree → Option ℕ → Bool
reaches db stmt None = false
reaches db stmt (Some k) = assigns stmt || not (is_some (fault_in (table_columns db.catalog k) stmt))

-- a DROP comes to a table
abbrev pub drop_reaches : Database → OpenTransaction → Bool → List (List ℕ) → Bool
drop_reaches db t if_exists [] = false
drop_reaches db t if_exists (name ∷ names) = is_some (find_table db (Some t.tx) name) || (if_exists && drop_reaches db t if_exists names)
