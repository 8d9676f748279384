-- The targets that a statement goes over, which it keeps while it waits.
use Rattle.std.specs.Prelude.{◌≡◌, List, [], Option, Some, None, Result, Ok}
use Rattle.std.specs.Global.{Vec}
use Rattle.std.specs.Option.{option_map_or}
use Rattle.sql_trees.specs.Statements.{StmtTree, Updates, Deletes, Selects}
use Rattle.sql_values.specs.declared.fault.ValueFault.{ValueFault}
use Rattle.row_versions.specs.declared.write.Seen.{Seen}
use Rattle.session_machine.specs.declared.session.OpenTransaction.{OpenTransaction}
use Rattle.session_machine.specs.declared.session.Progress.{Progress}
use Rattle.session_machine.specs.Tables.{Database}
use Rattle.session_machine.specs.Statements.{Surroundings}
use Rattle.session_machine.specs.Rows.{Work}
use Rattle.session_machine.specs.Targets.{going_on, passing_targets, taken_targets}

-- the versions that a statement goes over: those of UPDATE and DELETE pass WHERE, and those of a locking SELECT are as ORDER BY sorts them; the others go over none
abbrev pub targets_of : Database → Work → StmtTree → Result (List Seen) ValueFault
targets_of db w (Updates u) = passing_targets db w u.filter
targets_of db w (Deletes d) = passing_targets db w d.filter
targets_of db w (Selects s) = option_map_or (λ l. taken_targets db w s) s.lock (Ok [])
targets_of db w stmt = Ok []

-- in this state these are the targets of a statement that is in the middle of them, whatever is around it
abbrev pub AreTargets : Database → StmtTree → Progress → List Seen → Type 0
AreTargets db stmt p targets = (t : OpenTransaction) (around : Surroundings) → targets_of db (going_on t around p) stmt ≡ Ok targets

-- of a statement that waits the targets are kept
abbrev pub AreKept : Database → StmtTree → Option Progress → Option (Vec Seen) → Type 0
AreKept db stmt None kept = Unit {0}
AreKept db stmt (Some p) None = ⊥
AreKept db stmt (Some p) (Some targets) = AreTargets db stmt p targets.items
