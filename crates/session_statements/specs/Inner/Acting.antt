-- What a statement does at its targets, whichever it is.
use Rattle.std.specs.Prelude.{ℕ, List, [], ◌∷◌, Option, Some, None, option_map, unwrap_or}
use Rattle.sql_trees.specs.declared.stmt.Strength.{Strength}
use Rattle.sql_trees.specs.declared.stmt.Strength.TheVariants as strengths
use Rattle.sql_trees.specs.declared.stmt.Policy.{Policy}
use Rattle.sql_trees.specs.declared.stmt.Policy.TheVariants.{Wait}
use Rattle.sql_trees.specs.Trees.{Tree}
use Rattle.sql_trees.specs.Statements.{ItemTree, items_of, name_of, update_of, delete_of, select_of}
use Rattle.sql_values.specs.declared.value.Value.{Value}
use Rattle.row_versions.specs.declared.names.RowId.{RowId}
use Rattle.row_versions.specs.declared.write.Seen.{Seen}
use Rattle.row_versions.specs.Log.{Content}
use Rattle.update_recheck.specs.Asked.{Asked}
use Rattle.session_machine.specs.declared.reply.Outcome.{Outcome}
use Rattle.session_machine.specs.Tables.{Database}
use Rattle.session_machine.specs.Statements.{Effect, answers}
use Rattle.session_machine.specs.Rows.{Work, update_strength}
use Rattle.session_machine.specs.Rows as rows
use Rattle.session_machine.specs.Inner.Statements.{ask, at_target, update_with, delete_with, lock_with, comes_to, Visit, stops, goes_on}
use Rattle.session_statements.specs.declared.act.Act.{Act}
use Rattle.session_statements.specs.declared.act.Act.TheVariants.{Update, Delete, Lock}
use Rattle.session_database.specs.Stops.{stop_of}
use Rattle.session_statements.specs.declared.act.Putting.{Putting}
use Rattle.session_statements.specs.declared.act.Visited.{Visited}
use Rattle.session_statements.specs.declared.act.Visited.TheVariants.{Passes, Shows, Stops}
use Rattle.session_statements.specs.declared.act.Halt.{Halt}

-- how strongly the row is wanted at present
abbrev pub strength_in : Database → Work → Act → RowId → Strength
strength_in db w (Update u to) row = update_strength db w to.now (update_of u.now) row
strength_in db w (Delete d) row = strengths.Update
strength_in db w (Lock s l) row = l.strength

-- what is done where others hold it in conflict
abbrev pub policy_in : Act → Policy
policy_in (Update u to) = Wait
policy_in (Delete d) = Wait
policy_in (Lock s l) = l.policy

abbrev pub filter_in : Act → Option Tree
filter_in (Update u to) = (update_of u.now).filter
filter_in (Delete d) = (delete_of d.now).filter
filter_in (Lock s l) = (select_of s.now).filter

-- the table that the statement names
abbrev pub table_in : Act → List ℕ
table_in (Update u to) = (update_of u.now).table
table_in (Delete d) = (delete_of d.now).table
table_in (Lock s l) = unwrap_or (select_of s.now).table []

-- the items that it answers
abbrev pub items_in : Act → Option (List ItemTree)
items_in (Update u to) = (update_of u.now).returning
items_in (Delete d) = (delete_of d.now).returning
items_in (Lock s l) = Some (select_of s.now).items

-- with the version that a target takes
abbrev pub act_with : Work → Act → Database → Seen → Visit
act_with w (Update u to) = update_with w (update_of u.now) to.now
act_with w (Delete d) = delete_with w (delete_of d.now)
act_with w (Lock s l) = lock_with w (select_of s.now)

-- one target, as it is asked for this strongly
abbrev pub asked_at : Database → Work → Act → Strength → Seen → Asked
asked_at db w act strength seen = ask db w strength (policy_in act) (filter_in act) seen

-- one target, as the statement asks for it
abbrev pub asks : Database → Work → Act → Seen → Asked
asks db w act seen = asked_at db w act (strength_in db w act seen.row) seen

abbrev pub visit_at : Work → Act → Database → Seen → Visit
visit_at w act db seen = at_target (table_in act) (act_with w act) db w (asks db w act seen)

-- how it puts rows into its table
abbrev pub putting_of : Putting → rows.Putting
putting_of p = record { table = name_of p.table; do_nothing = p.do_nothing; returning = option_map items_of p.returning.now }

abbrev pub visit_of : Database → Visited → Visit
visit_of db Passes = goes_on db []
visit_of db (Shows row) = goes_on db (row ∷ [])
visit_of db (Stops stop) = stops db (stop_of stop)

-- what a statement comes to that went over all its targets, or halted at one
abbrev pub halted_walk : Content → Work → (List (List Value) → Outcome) → Database → List (List Value) → Option Halt → Effect
halted_walk before w outcome db rows None = answers before db w.t (outcome rows)
halted_walk before w outcome db rows (Some h) =
    comes_to before w outcome (record { db = db; place = h.place; rows = rows; stop = Some (stop_of h.stop) }) (Some (stop_of h.stop))
