-- What follows from the table of cases. Each law stands on the contract of a function of `laws`.
use Rattle.std.specs.Prelude.{◌≡◌, ◌≢◌, ◌⊎◌, true, List}
use Rattle.sql_trees.specs.declared.stmt.Policy.TheVariants.{Wait}
use Rattle.row_versions.specs.Log.{Content}
use Rattle.row_versions.specs.Members.{is_none_of}
use Rattle.row_locks.specs.declared.held.Held.{Held}
use Rattle.row_locks.specs.Waiting.{Waiting}
use Rattle.row_locks.specs.Laws.{SameLocks, SamePairs}
use Rattle.update_recheck.specs.Asked.{Asked}
use Rattle.update_recheck.specs.Outcome.{row_blockers, target_outcome, is_target_locked}

-- what comes of a target is a matter of which locks are held and who is blocked by whom, and not of their order
abbrev pub OutcomesByWhatIsHeld : Type 0
OutcomesByWhatIsHeld = (c : Content) (held others : List Held) (waits waiting : List Waiting) (ask : Asked) → SameLocks held others → SamePairs waits waiting
    → (target_outcome c held waits ask ≡ target_outcome c others waiting ask) × (is_target_locked c held waits ask ≡ is_target_locked c others waiting ask)

-- the waits that stand matter to a target alone that has blockers, and that waits for them
abbrev pub WaitsMatterToTheBlocked : Type 0
WaitsMatterToTheBlocked = (c : Content) (held : List Held) (waits others : List Waiting) (ask : Asked) → (is_none_of (row_blockers held ask) ≡ true) ⊎ (ask.policy ≢ Wait)
    → (target_outcome c held waits ask ≡ target_outcome c held others ask) × (is_target_locked c held waits ask ≡ is_target_locked c held others ask)
