-- To be believed. What becomes of one target row, at each level (PostgreSQL manual, 13.2.1 and 13.2.2).
use Rattle.std.specs.Prelude.{◌==◌, Bool, true, false, List, Option, Some, None, unwrap_or, Result, Ok, Err, if◌then◌else◌}
use Rattle.std.specs.Option.{option_map_or}
use Rattle.sql_trees.specs.declared.stmt.Level.{Level}
use Rattle.sql_trees.specs.declared.stmt.Level.TheVariants.{ReadCommitted, RepeatableRead}
use Rattle.sql_trees.specs.declared.stmt.Policy.TheVariants.{Wait, NoWait, SkipLocked}
use Rattle.sql_values.specs.declared.value.Value.{Value}
use Rattle.sql_values.specs.declared.fault.ValueFault.{ValueFault}
use Rattle.sql_values.specs.Expressions.{passes}
use Rattle.row_versions.specs.declared.names.TxId.{TxId}
use Rattle.row_versions.specs.declared.write.Seen.{Seen}
use Rattle.row_versions.specs.Log.{Content, values_at}
use Rattle.row_versions.specs.Newest.{newest_of}
use Rattle.row_versions.specs.Members.{is_none_of}
use Rattle.row_locks.specs.declared.held.Held.{Held}
use Rattle.row_locks.specs.Held.{holders_against}
use Rattle.row_locks.specs.Waiting.{Waiting}
use Rattle.row_locks.specs.Cycles.{closes}
use Rattle.update_recheck.specs.Asked.{Asked}

-- the newest committed or own version of the row: the one that the view shows; one that deletes the row;
-- or a newer one, with what WHERE says of it
pub data Version : Type 0 where
  Same : Version
  Gone : Version
  Newer : Seen → Result Bool ValueFault → Version

-- what comes of a target
pub data Outcome : Type 0 where
  Takes : Seen → Outcome
  Skips : Outcome
  Waits : Outcome
  Deadlocks : Outcome
  NotFree : Outcome
  Serializes : Outcome
  Faults : ValueFault → Outcome

-- What stops the target comes first, but that Repeatable Read can't modify or lock a row that others changed after its view (13.2.2).
-- A row that is as it was found is used so: also one that was only locked, or whose change was rolled back.
-- At Read Committed a row that was deleted is ignored; of one that was updated WHERE is evaluated again, and where it still matches, that version is used (13.2.1)
abbrev pub outcome : Level → Seen → Option Outcome → Version → Outcome
outcome level found stop Same = unwrap_or stop (Takes found)
outcome RepeatableRead found stop changed = Serializes
outcome ReadCommitted found stop Gone = unwrap_or stop Skips
outcome ReadCommitted found stop (Newer newer (Ok true)) = unwrap_or stop (Takes newer)
outcome ReadCommitted found stop (Newer newer (Ok false)) = unwrap_or stop Skips
outcome ReadCommitted found stop (Newer newer (Err fault)) = unwrap_or stop (Faults fault)

-- the blockers of the target's request
abbrev pub row_blockers : List Held → Asked → List TxId
row_blockers held ask = holders_against held ask.seen.row ask.tx ask.strength

-- what comes of a target that has these blockers: it waits for them, unless that wait would close a cycle; with NOWAIT the row isn't free,
-- with SKIP LOCKED it is passed over (SELECT, "The Locking Clause")
abbrev pub held_by : List Waiting → Asked → List TxId → Outcome
held_by waits ask by = elim ask.policy [ Wait ↦ if closes waits ask.tx by then Deadlocks else Waits | NoWait ↦ NotFree | SkipLocked ↦ Skips ]

-- what stops the target, by the locks that are held and the waits that stand, if it has blockers
abbrev pub stop : List Held → List Waiting → Asked → Option Outcome
stop held waits ask = let by = row_blockers held ask in if is_none_of by then None else Some (held_by waits ask by)

-- a version beside the one that the view shows, by its values, if it has any
abbrev pub version_at : Asked → Seen → Option (List Value) → Version
version_at ask m values = option_map_or (λ row. if m.place == ask.seen.place then Same else Newer m (passes ask.condition ask.cols row)) values Gone

-- the row's newest version for the transaction
abbrev pub newest_version : Content → Asked → Version
newest_version c ask = option_map_or (λ (m : Seen). version_at ask m (values_at c m.place)) (newest_of c ask.seen.row ask.tx) Gone

-- the outcome of the target: from all writes and fates, the locks that are held, and the waits that stand
abbrev pub target_outcome : Content → List Held → List Waiting → Asked → Outcome
target_outcome c held waits ask = outcome ask.level ask.seen (stop held waits ask) (newest_version c ask)

-- the target is locked where without WHERE it would be used: a row that WHERE then passes over stays locked
abbrev pub is_target_locked : Content → List Held → List Waiting → Asked → Bool
is_target_locked c held waits ask = elim (target_outcome c held waits (record ask { condition = None })) [ Takes seen ↦ true | other ↦ false ]
