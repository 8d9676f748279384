-- To be believed. How a statement goes from one of its targets to the next, up to the one at which it stops.
use Rattle.std.specs.Prelude.{is_some, if◌then◌else◌, ℕ, ◌+◌, List, ◌++◌, Option, Some, None}
use Rattle.std.specs.List.{fold}
use Rattle.sql_values.specs.declared.value.Value.{Value}
use Rattle.session_machine.specs.declared.session.Request.{Request}
use Rattle.session_machine.specs.declared.fault.StmtFault.{StmtFault}
use Rattle.session_machine.specs.Tables.{Database}

-- what stops a statement: it has to wait for this, or fails
pub data Stop : Type 0 where
  Blocked : Request → Stop
  Fails : StmtFault → Stop

-- where a statement has come to: the database, the place of its target, the rows so far, and what stopped it, if it isn't done
pub record Walk : Type 0 where
  pub db : Database
  pub place : ℕ
  pub rows : List (List Value)
  pub stop : Option Stop

-- behind its target, with this database and these rows more
abbrev pub passed : Walk → Database → List (List Value) → Walk
passed walk db rows = record { db = db; place = walk.place + 1; rows = walk.rows ++ rows; stop = None }

abbrev pub stopped : Walk → Stop → Walk
stopped walk stop = record walk { stop = Some stop }

-- one target after the other is visited, up to the one at which the statement stops
abbrev pub over : {A : Type 0} → (Walk → A → Walk) → Walk → List A → Walk
over visit walk xs = fold (λ walk x. if is_some walk.stop then walk else visit walk x) walk xs
