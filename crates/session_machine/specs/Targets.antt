-- What a statement asks for and goes over, in the words of the laws.
use Rattle.std.specs.Prelude.{ℕ, List, [], map, unwrap_or, option_map, Option, slice_get, filter_map, Result, Ok, Err}
use Rattle.sql_trees.specs.Trees.{Tree}
use Rattle.sql_trees.specs.Statements.{ColumnTree, KeyTree, SelectTree}
use Rattle.sql_values.specs.declared.value.Value.{Value}
use Rattle.sql_values.specs.declared.fault.ValueFault.{ValueFault}
use Rattle.query_results.specs.Queries.{passing, taken}
use Rattle.row_versions.specs.declared.write.Seen.{Seen}
use Rattle.row_versions.specs.Rows.{rows_of}
use Rattle.session_machine.specs.declared.session.OpenTransaction.{OpenTransaction}
use Rattle.session_machine.specs.declared.session.Progress.{Progress}
use Rattle.session_machine.specs.Tables.{Database}
use Rattle.session_machine.specs.Views.{rows_shown}
use Rattle.session_machine.specs.AskedKeys.{AskedKey}
use Rattle.session_machine.specs.Statements.{Surroundings}
use Rattle.session_machine.specs.Rows.{Work, columns_in, cols_in}

-- what a statement finds again that goes on: the table and the view with which it began
abbrev pub going_on : OpenTransaction → Surroundings → Progress → Work
going_on t around p = record { t = t; table = p.table.0; view = p.view; around = around }

-- the key, asked for with a row of these values
abbrev pub asked_key : Work → List Value → KeyTree → AskedKey
asked_key w values key = record { table = record { 0 = w.table }; columns = key.columns; values = values }

-- the names of the columns at these places
abbrev pub names_at : List ColumnTree → List ℕ → List (List ℕ)
names_at columns places = map (λ place. unwrap_or (option_map (λ (c : ColumnTree). c.name) (slice_get columns place)) []) places

-- the versions that the statement's view shows of its table
abbrev pub seen_by : Database → Work → List Seen
seen_by db w = rows_of db.content w.view (record { 0 = w.table })

-- the versions at these places
abbrev pub at_places : List Seen → Result (List ℕ) ValueFault → Result (List Seen) ValueFault
at_places seen (Err fault) = Err fault
at_places seen (Ok places) = Ok (filter_map (slice_get seen) places)

-- the targets of UPDATE and DELETE: the versions that their view shows and that pass WHERE
abbrev pub passing_targets : Database → Work → Option Tree → Result (List Seen) ValueFault
passing_targets db w filter = at_places (seen_by db w) (passing (cols_in db w) filter (rows_shown db.content w.view w.table))

-- those of a locking SELECT, as ORDER BY sorts them
abbrev pub taken_targets : Database → Work → SelectTree → Result (List Seen) ValueFault
taken_targets db w s = at_places (seen_by db w) (taken s (columns_in db w) (rows_shown db.content w.view w.table))
