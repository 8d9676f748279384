-- When a history is serial: by transactions, and not by sessions.
use Rattle.std.specs.Prelude.{◌≡◌, ℕ, ◌+◌, ◌<◌, ◌≤◌, ◌==◌, Bool, true, false, not, ◌&&◌, List, take, fold, IfSome, slice_get, if◌then◌else◌}
use Rattle.std.specs.List.{list_any}
use Rattle.std.specs.Option.{option_map_or}
use Rattle.sql_trees.specs.Statements.{StmtTree}
use Rattle.sql_trees.specs.Statements.{Begin, Commit, Rollback, SetTransaction, SetDeadlockTimeout}
use Rattle.session_machine.specs.declared.event.Event.{Event}
use Rattle.session_machine.specs.declared.event.Event.TheVariants.{Launch, Step, Leave}
use Rattle.session_machine.specs.declared.reply.Outcome.{Outcome}
use Rattle.session_machine.specs.declared.reply.Outcome.TheVariants.{Done, Rows, Waits, Failed}
use Rattle.session_machine.specs.declared.reply.HistItem.{HistItem}
use Rattle.session_machine.specs.Machine.{Blocks, stmts_of}
use Rattle.outcome_counts.specs.declared.standing.Standing.{Standing}

-- ---- what a session has open

-- no transaction, before any block
abbrev pub at_first : Standing
at_first = record { begun = false; queried = false; block = 0; next = 0 }

-- a statement has worked: BEGIN opens a transaction, COMMIT and ROLLBACK end it, and all but the settings are queries of it
abbrev pub after_work : Standing → StmtTree → Standing
after_work s (Begin level) = record s { begun = true }
after_work s Commit = record s { begun = false; queried = false }
after_work s Rollback = record s { begun = false; queried = false }
after_work s (SetTransaction level) = s
after_work s SetDeadlockTimeout = s
after_work s stmt = record s { queried = true }

-- the block's next statement has worked
abbrev pub after_next : Blocks → Standing → Standing
after_next blocks s = option_map_or (λ stmt. record (after_work s stmt) { next = s.next + 1 }) (slice_get (stmts_of blocks s.block) s.next) s

-- a statement is over with this, or waits: one that failed has ended its transaction
abbrev pub after_answer : Blocks → Standing → Outcome → Standing
after_answer blocks s outcome = elim outcome [ Done ↦ after_next blocks s | Rows set ↦ after_next blocks s | Failed fault ↦ record s { begun = false; queried = false } | other ↦ s ]

-- a block begins: queries before it, that no BEGIN had opened a transaction for, were over with their block
abbrev pub after_launch : Standing → ℕ → Standing
after_launch s block = record { begun = s.begun; queried = s.begun && s.queried; block = block; next = 0 }

abbrev pub after_item : Blocks → ℕ → Standing → HistItem → Standing
after_item blocks session s item = elim item.event [
  | Launch k block ↦ if k == session then after_launch s block else s
  | Step k ↦ if k == session then after_answer blocks s item.reply.outcome else s
  | Leave k ↦ if k == session then at_first else s
]

-- behind these items the session has a transaction open, in which a query has run
abbrev pub is_in_queries : Blocks → ℕ → List HistItem → Bool
is_in_queries blocks session items = let s = fold (after_item blocks session) at_first items in s.begun && s.queried

-- ---- serial histories

-- the session is another one, and has a transaction open, in which a query has run
abbrev pub is_beside : Blocks → ℕ → List HistItem → ℕ → Bool
is_beside blocks session items other = not (other == session) && is_in_queries blocks other items

-- what begins with the event behind these items begins alone: no session of so many is beside it
abbrev pub BeginsAlone : Blocks → ℕ → List HistItem → Event → Type 0
BeginsAlone blocks count items (Launch session block) = (other : ℕ) → other < count → is_beside blocks session items other ≡ false
BeginsAlone blocks count items event = Unit {0}

-- so does the item at this place
abbrev pub IsAloneAt : Blocks → ℕ → List HistItem → ℕ → Type 0
IsAloneAt blocks count items k = IfSome (slice_get items k) (λ item. BeginsAlone blocks count (take k items) item.event)

abbrev pub is_wait : HistItem → Bool
is_wait item = elim item.reply.outcome [ Waits ↦ true | other ↦ false ]

-- a history is serial, of so many sessions, in which so many items are setups: each step begins alone, and nothing waits
pub record IsSerial (blocks : Blocks) (count setups : ℕ) (items : List HistItem) : Type 0 where
  pub alone : (k : ℕ) → setups ≤ k → IsAloneAt blocks count items k
  pub waits : list_any is_wait items ≡ false
