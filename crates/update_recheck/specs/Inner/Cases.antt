-- The table of cases by who holds the row.
use Rattle.std.specs.Prelude.{Bool, true, false, List, Result, Ok, Err, if◌then◌else◌}
use Rattle.sql_trees.specs.declared.stmt.Level.{Level}
use Rattle.sql_trees.specs.declared.stmt.Level.TheVariants.{ReadCommitted, RepeatableRead}
use Rattle.sql_trees.specs.declared.stmt.Policy.{Policy}
use Rattle.sql_trees.specs.declared.stmt.Policy.TheVariants.{Wait, NoWait, SkipLocked}
use Rattle.sql_values.specs.declared.fault.ValueFault.{ValueFault}
use Rattle.row_versions.specs.declared.write.Seen.{Seen}
use Rattle.row_versions.specs.Members.{is_none_of}
use Rattle.row_locks.specs.declared.held.Held.{Held}
use Rattle.row_locks.specs.Waiting.{Waiting}
use Rattle.row_locks.specs.Cycles.{closes}
use Rattle.update_recheck.specs.Asked.{Asked}
use Rattle.update_recheck.specs.Outcome.{Version, Outcome, row_blockers}
use Rattle.update_recheck.specs.Outcome.Version.{Same, Gone, Newer}
use Rattle.update_recheck.specs.Outcome.Outcome.{Takes, Skips, Waits, Deadlocks, NotFree, Serializes, Faults}

-- who holds the row against the request, and what is done about it: nobody; others, for whom it can wait; others, where a wait for them would close a cycle;
-- others, with NOWAIT; or others, with SKIP LOCKED
pub data Holders : Type 0 where
  Nobody : Holders
  Others : Holders
  OthersInACycle : Holders
  OthersAtNoWait : Holders
  OthersSkipped : Holders

-- what comes of the version that is used where WHERE still matches it
abbrev pub rechecked : Seen → Result Bool ValueFault → Outcome
rechecked newer (Ok true) = Takes newer
rechecked newer (Ok false) = Skips
rechecked newer (Err fault) = Faults fault

-- what comes of a target, by who holds it
abbrev pub outcome : Level → Seen → Holders → Version → Outcome
outcome ReadCommitted found OthersInACycle version = Deadlocks
outcome ReadCommitted found Others version = Waits
outcome ReadCommitted found OthersAtNoWait version = NotFree
outcome ReadCommitted found OthersSkipped version = Skips
outcome ReadCommitted found Nobody Gone = Skips
outcome ReadCommitted found Nobody Same = Takes found
outcome ReadCommitted found Nobody (Newer newer condition) = rechecked newer condition
outcome RepeatableRead found holders Gone = Serializes
outcome RepeatableRead found holders (Newer newer condition) = Serializes
outcome RepeatableRead found OthersInACycle Same = Deadlocks
outcome RepeatableRead found Others Same = Waits
outcome RepeatableRead found OthersAtNoWait Same = NotFree
outcome RepeatableRead found OthersSkipped Same = Skips
outcome RepeatableRead found Nobody Same = Takes found

-- the target is locked: at Read Committed also where WHERE then doesn't match
abbrev pub is_locked : Level → Holders → Version → Bool
is_locked level Nobody Same = true
is_locked ReadCommitted Nobody (Newer newer condition) = true
is_locked level holders version = false

-- the target is held by others who have to be found: it waits for them, or closes a cycle
abbrev pub is_waited_for : Holders → Bool
is_waited_for Others = true
is_waited_for OthersInACycle = true
is_waited_for holders = false

-- those who hold the target have to be found, or it is to be locked: at Repeatable Read only where it is as it was found
abbrev pub is_looked_at : Level → Holders → Version → Bool
is_looked_at level Nobody Same = true
is_looked_at level holders Same = is_waited_for holders
is_looked_at ReadCommitted Nobody Gone = false
is_looked_at ReadCommitted Nobody (Newer newer condition) = true
is_looked_at ReadCommitted holders version = is_waited_for holders
is_looked_at RepeatableRead holders version = false

-- what others who hold a target mean for it, by what is done about them and by whether a wait for them closes a cycle
abbrev pub others_by : Policy → Bool → Holders
others_by Wait closing = if closing then OthersInACycle else Others
others_by NoWait closing = OthersAtNoWait
others_by SkipLocked closing = OthersSkipped

-- who holds the target, by the locks that are held and the waits that stand
abbrev pub holders : List Held → List Waiting → Asked → Holders
holders held waits ask = let by = row_blockers held ask in if is_none_of by then Nobody else others_by ask.policy (closes waits ask.tx by)
