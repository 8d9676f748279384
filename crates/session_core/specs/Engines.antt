-- What an engine was opened over, and what it keeps of statements that wait.
use Rattle.std.specs.Prelude.{◌≡◌, ℕ, List, [], Option, Some, None, slice_get}
use Rattle.std.specs.Option.{option_map_or}
use Rattle.sql_trees.specs.Statements.{StmtTree}
use Rattle.row_versions.specs.declared.write.Seen.{Seen}
use Rattle.row_versions.specs.declared.names.TxId.{TxId}
use Rattle.row_locks.specs.Waiting.{Waiting}
use Rattle.update_recheck.specs.Settling.{SameMembers}
use Rattle.session_machine.specs.declared.event.Mode.{Mode}
use Rattle.session_machine.specs.declared.session.Progress.{Progress}
use Rattle.session_machine.specs.declared.session.Session.{Session}
use Rattle.session_machine.specs.Tables.{Database}
use Rattle.session_machine.specs.Waits.{waiting_in}
use Rattle.session_machine.specs.Machine.{Machine, Blocks}
use Rattle.session_machine.specs.Engine.{Engine}
use Rattle.session_statements.specs.Targets.{AreTargets}
use Rattle.wait_laws.specs.Laws.{IsAtWork, stmt_at}

-- the engine was opened over these blocks, with so many sessions and in this mode
abbrev pub IsOf : Engine → Blocks → ℕ → Mode → Type 0
IsOf e blocks count mode = (e.blocks ≡ blocks) × (e.count ≡ count) × (e.mode ≡ mode)

-- those who stand in the way of what the session waits for: nobody, where it doesn't wait
abbrev pub in_the_way : Database → Session → List TxId
in_the_way db s = option_map_or (λ (w : Waiting). w.blockers) (waiting_in db s) []

-- those who are kept as standing in the way of what the session waits for are, in whatever order, those who do so in the present state
pub record KeepsBlockers (e : Engine) (session : ℕ) (kept : List TxId) : Type 0 where
  pub its : (m : Machine) → e.machine ≡ Some m → (s : Session) → slice_get m.sessions session ≡ Some s → SameMembers kept (in_the_way m.db s)
  pub nobody : (m : Machine) → e.machine ≡ Some m → slice_get m.sessions session ≡ None → kept ≡ []
  pub spent : e.machine ≡ None → kept ≡ []

-- the session stands at a statement of its block, and these are the targets that this has in the present state
pub record KeepsAt (given : Blocks) (m : Machine) (s : Session) (p : Progress) (kept : Option (List Seen)) : Type 0 where
  pub stmt : StmtTree
  pub tree : stmt_at given s.place ≡ Some stmt
  pub targets : List Seen
  pub are : kept ≡ Some targets
  pub its : AreTargets m.db stmt p targets

-- what a session keeps: in the middle of a statement, which waits, the targets of that, as they are in the present state, and else nothing
pub record KeepsTargets (e : Engine) (session : ℕ) (kept : Option (List Seen)) : Type 0 where
  pub waits : (m : Machine) → e.machine ≡ Some m → (s : Session) (p : Progress) → IsAtWork m session s p → KeepsAt e.blocks m s p kept
  pub over : (m : Machine) → e.machine ≡ Some m → (s : Session) → slice_get m.sessions session ≡ Some s → s.statement ≡ None → kept ≡ None
  pub nobody : (m : Machine) → e.machine ≡ Some m → slice_get m.sessions session ≡ None → kept ≡ None
  pub spent : e.machine ≡ None → kept ≡ None
