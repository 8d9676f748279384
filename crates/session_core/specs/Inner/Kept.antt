-- What the sessions of a machine keep that are in the middle of a statement.
use Rattle.std.specs.Prelude.{◌≡◌, ℕ, List, length, Option, Some, None, slice_get, slice_set}
use Rattle.std.specs.Global.{Vec}
use Rattle.sql_trees.specs.Statements.{StmtTree}
use Rattle.row_versions.specs.declared.write.Seen.{Seen}
use Rattle.session_machine.specs.declared.session.Session.{Session}
use Rattle.session_machine.specs.Tables.{Database}
use Rattle.session_machine.specs.Machine.{Machine, Blocks}
use Rattle.session_statements.specs.Targets.{AreKept}
use Rattle.wait_laws.specs.Laws.{stmt_at}

abbrev pub Lists : Type 0
Lists = List (Option (Vec Seen))

abbrev pub seen_in : Option (Option (Vec Seen)) → Option (List Seen)
seen_in (Some (Some targets)) = Some targets.items
seen_in kept = None

-- what the session has kept, if anything
abbrev pub kept_at : Lists → ℕ → Option (List Seen)
kept_at kept session = seen_in (slice_get kept session)

-- each session that waits has kept the targets of its statement, which are those of the present state, and the others nothing
pub record AllKept (given : Blocks) (m : Machine) (kept : Lists) : Type 0 where
  pub long : length kept ≡ length m.sessions
  pub its : (k : ℕ) (s : Session) (targets : Option (Vec Seen)) → slice_get m.sessions k ≡ Some s → slice_get kept k ≡ Some targets
      → (stmt : StmtTree) → stmt_at given s.place ≡ Some stmt → AreKept m.db stmt s.statement targets
  pub over : (k : ℕ) (s : Session) (targets : Option (Vec Seen)) → slice_get m.sessions k ≡ Some s → slice_get kept k ≡ Some targets
      → s.statement ≡ None → targets ≡ None

-- of one session, which is at this statement
abbrev pub KeptAt : Machine → ℕ → StmtTree → Lists → Type 0
KeptAt m k stmt kept = (s : Session) (targets : Option (Vec Seen)) → slice_get m.sessions k ≡ Some s → slice_get kept k ≡ Some targets → AreKept m.db stmt s.statement targets

-- the session keeps others: those of its statement, as they were in this database, or none where it is over
pub record KeepsOn (db : Database) (stmt : StmtTree) (k : ℕ) (after : Machine) (kept now : Lists) : Type 0 where
  pub targets : Option (Vec Seen)
  pub is : now ≡ slice_set kept k targets
  pub its : (u : Session) → slice_get after.sessions k ≡ Some u → AreKept db stmt u.statement targets
  pub over : (u : Session) → slice_get after.sessions k ≡ Some u → u.statement ≡ None → targets ≡ None
