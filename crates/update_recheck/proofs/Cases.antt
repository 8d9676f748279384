-- The table of cases by what stops a target, and by who holds it.
use Rattle.std.proofs.Common.{◌≡◌, refl, sym, ap, ◌∙◌, Bool, true, false, List, Some, None, Ok, Err, if◌then◌else◌}
use Rattle.std.specs.Prelude.{◌==◌, Option}
use Rattle.sql_trees.specs.declared.stmt.Level.{Level}
use Rattle.sql_trees.specs.declared.stmt.Level.TheVariants.{ReadCommitted, RepeatableRead}
use Rattle.sql_trees.specs.declared.stmt.Policy.{Policy}
use Rattle.sql_trees.specs.declared.stmt.Policy.TheVariants.{Wait, NoWait, SkipLocked}
use Rattle.sql_values.specs.declared.value.Value.{Value}
use Rattle.sql_values.specs.Expressions.{passes}
use Rattle.row_versions.specs.declared.write.Seen.{Seen}
use Rattle.row_versions.specs.Log.{Content, values_at}
use Rattle.row_versions.specs.Newest.{newest_of}
use Rattle.row_versions.specs.Members.{is_none_of}
use Rattle.row_locks.specs.declared.held.Held.{Held}
use Rattle.row_locks.specs.Waiting.{Waiting}
use Rattle.row_locks.specs.Cycles.{closes}
use Rattle.update_recheck.specs.Asked.{Asked}
use Rattle.update_recheck.specs.Outcome.{Version, Outcome, row_blockers, stop, version_at, newest_version, target_outcome, is_target_locked}
use Rattle.update_recheck.specs.Outcome as by_stop
use Rattle.update_recheck.specs.Outcome.Version.{Same, Gone, Newer}
use Rattle.update_recheck.specs.Outcome.Outcome.{Takes, Waits, Deadlocks, NotFree, Skips}
use Rattle.update_recheck.specs.Settling.{asks_for_memory}
use Rattle.update_recheck.specs.Inner.Cases.{Holders, others_by, outcome, is_locked, is_looked_at, holders}
use Rattle.update_recheck.specs.Inner.Cases.Holders.{Nobody, Others, OthersInACycle, OthersAtNoWait, OthersSkipped}
use Rattle.update_recheck.specs.Inner.Stopping.{holders_stop, version_of}

stop_by : (policy : Policy) (nobody closing : Bool)
    → (let due : Option Outcome = if nobody then None else Some (elim policy [ Wait ↦ if closing then Deadlocks else Waits | NoWait ↦ NotFree | SkipLocked ↦ Skips ]) in due)
    ≡ holders_stop (if nobody then Nobody else others_by policy closing)
stop_by policy true closing = refl
stop_by Wait false true = refl
stop_by Wait false false = refl
stop_by NoWait false closing = refl
stop_by SkipLocked false closing = refl

-- what stops a target, by who holds it
stop_is : (held : List Held) (waits : List Waiting) (ask : Asked) → stop held waits ask ≡ holders_stop (holders held waits ask)
stop_is held waits ask = stop_by ask.policy (is_none_of (row_blockers held ask)) (closes waits ask.tx (row_blockers held ask))

by_case : (level : Level) (found : Seen) (h : Holders) (v : Version) → by_stop.outcome level found (holders_stop h) v ≡ outcome level found h v
by_case ReadCommitted found OthersInACycle Same = refl
by_case ReadCommitted found OthersInACycle Gone = refl
by_case ReadCommitted found OthersInACycle (Newer m (Ok true)) = refl
by_case ReadCommitted found OthersInACycle (Newer m (Ok false)) = refl
by_case ReadCommitted found OthersInACycle (Newer m (Err fault)) = refl
by_case ReadCommitted found Others Same = refl
by_case ReadCommitted found OthersAtNoWait Same = refl
by_case ReadCommitted found OthersSkipped Same = refl
by_case ReadCommitted found Others Gone = refl
by_case ReadCommitted found OthersAtNoWait Gone = refl
by_case ReadCommitted found OthersSkipped Gone = refl
by_case ReadCommitted found Others (Newer m (Ok true)) = refl
by_case ReadCommitted found OthersAtNoWait (Newer m (Ok true)) = refl
by_case ReadCommitted found OthersSkipped (Newer m (Ok true)) = refl
by_case ReadCommitted found Others (Newer m (Ok false)) = refl
by_case ReadCommitted found OthersAtNoWait (Newer m (Ok false)) = refl
by_case ReadCommitted found OthersSkipped (Newer m (Ok false)) = refl
by_case ReadCommitted found Others (Newer m (Err fault)) = refl
by_case ReadCommitted found OthersAtNoWait (Newer m (Err fault)) = refl
by_case ReadCommitted found OthersSkipped (Newer m (Err fault)) = refl
by_case ReadCommitted found Nobody Same = refl
by_case ReadCommitted found Nobody Gone = refl
by_case ReadCommitted found Nobody (Newer m (Ok true)) = refl
by_case ReadCommitted found Nobody (Newer m (Ok false)) = refl
by_case ReadCommitted found Nobody (Newer m (Err fault)) = refl
by_case RepeatableRead found Nobody Same = refl
by_case RepeatableRead found Others Same = refl
by_case RepeatableRead found OthersAtNoWait Same = refl
by_case RepeatableRead found OthersSkipped Same = refl
by_case RepeatableRead found OthersInACycle Same = refl
by_case RepeatableRead found Nobody Gone = refl
by_case RepeatableRead found Others Gone = refl
by_case RepeatableRead found OthersAtNoWait Gone = refl
by_case RepeatableRead found OthersSkipped Gone = refl
by_case RepeatableRead found OthersInACycle Gone = refl
by_case RepeatableRead found Nobody (Newer m r) = refl
by_case RepeatableRead found Others (Newer m r) = refl
by_case RepeatableRead found OthersAtNoWait (Newer m r) = refl
by_case RepeatableRead found OthersSkipped (Newer m r) = refl
by_case RepeatableRead found OthersInACycle (Newer m r) = refl

-- the outcome of a target, by who holds it
pub outcome_is : (c : Content) (held : List Held) (waits : List Waiting) (ask : Asked) → target_outcome c held waits ask ≡ outcome ask.level ask.seen (holders held waits ask) (newest_version c ask)
outcome_is c held waits ask =
    ap (λ s. by_stop.outcome ask.level ask.seen s (newest_version c ask)) (stop_is held waits ask)
    ∙ by_case ask.level ask.seen (holders held waits ask) (newest_version c ask)

-- the same target without WHERE
abbrev bare : Asked → Asked
bare ask = record ask { condition = None }

abbrev takes : Outcome → Bool
takes o = elim o [ Takes seen ↦ true | other ↦ false ]

-- the version that WHERE says nothing of
abbrev passed : Version → Version
passed Same = Same
passed Gone = Gone
passed (Newer m r) = Newer m (Ok true)

passed_by : (ask : Asked) (m : Seen) (row : List Value) (same : Bool)
    → (let v : Version = if same then Same else Newer m (passes None ask.cols row) in v) ≡ passed (if same then Same else Newer m (passes ask.condition ask.cols row))
passed_by ask m row true = refl
passed_by ask m row false = refl

passed_at : (ask : Asked) (m : Seen) (values : Option (List Value)) → version_at (bare ask) m values ≡ passed (version_at ask m values)
passed_at ask m None = refl
passed_at ask m (Some row) = passed_by ask m row (m.place == ask.seen.place)

passed_of : (c : Content) (ask : Asked) (o : Option Seen) → version_of c (bare ask) o ≡ passed (version_of c ask o)
passed_of c ask None = refl
passed_of c ask (Some m) = passed_at ask m (values_at c m.place)

locked_by : (level : Level) (found : Seen) (h : Holders) (v : Version) → takes (outcome level found h (passed v)) ≡ is_locked level h v
locked_by ReadCommitted found OthersInACycle Same = refl
locked_by ReadCommitted found OthersInACycle Gone = refl
locked_by ReadCommitted found OthersInACycle (Newer m r) = refl
locked_by ReadCommitted found Others Same = refl
locked_by ReadCommitted found OthersAtNoWait Same = refl
locked_by ReadCommitted found OthersSkipped Same = refl
locked_by ReadCommitted found Others Gone = refl
locked_by ReadCommitted found OthersAtNoWait Gone = refl
locked_by ReadCommitted found OthersSkipped Gone = refl
locked_by ReadCommitted found Others (Newer m r) = refl
locked_by ReadCommitted found OthersAtNoWait (Newer m r) = refl
locked_by ReadCommitted found OthersSkipped (Newer m r) = refl
locked_by ReadCommitted found Nobody Same = refl
locked_by ReadCommitted found Nobody Gone = refl
locked_by ReadCommitted found Nobody (Newer m r) = refl
locked_by RepeatableRead found Nobody Same = refl
locked_by RepeatableRead found Others Same = refl
locked_by RepeatableRead found OthersAtNoWait Same = refl
locked_by RepeatableRead found OthersSkipped Same = refl
locked_by RepeatableRead found OthersInACycle Same = refl
locked_by RepeatableRead found Nobody Gone = refl
locked_by RepeatableRead found Others Gone = refl
locked_by RepeatableRead found OthersAtNoWait Gone = refl
locked_by RepeatableRead found OthersSkipped Gone = refl
locked_by RepeatableRead found OthersInACycle Gone = refl
locked_by RepeatableRead found Nobody (Newer m r) = refl
locked_by RepeatableRead found Others (Newer m r) = refl
locked_by RepeatableRead found OthersAtNoWait (Newer m r) = refl
locked_by RepeatableRead found OthersSkipped (Newer m r) = refl
locked_by RepeatableRead found OthersInACycle (Newer m r) = refl

-- a target is locked, by who holds it and by its newest version
pub locked_is : (c : Content) (held : List Held) (waits : List Waiting) (ask : Asked) → is_target_locked c held waits ask ≡ is_locked ask.level (holders held waits ask) (newest_version c ask)
locked_is c held waits ask =
    ap takes (outcome_is c held waits (bare ask))
    ∙ ap (λ v. takes (outcome ask.level ask.seen (holders held waits ask) v)) (passed_of c ask (newest_of c ask.seen.row ask.tx))
    ∙ locked_by ask.level ask.seen (holders held waits ask) (newest_version c ask)

abbrev asks : Outcome → Bool
asks o = elim o [ Takes seen ↦ true | Waits ↦ true | Deadlocks ↦ true | other ↦ false ]

asked_by : (level : Level) (found : Seen) (h : Holders) (v : Version) → asks (outcome level found h (passed v)) ≡ is_looked_at level h v
asked_by ReadCommitted found OthersInACycle Same = refl
asked_by ReadCommitted found OthersInACycle Gone = refl
asked_by ReadCommitted found OthersInACycle (Newer m r) = refl
asked_by ReadCommitted found Others Same = refl
asked_by ReadCommitted found OthersAtNoWait Same = refl
asked_by ReadCommitted found OthersSkipped Same = refl
asked_by ReadCommitted found Others Gone = refl
asked_by ReadCommitted found OthersAtNoWait Gone = refl
asked_by ReadCommitted found OthersSkipped Gone = refl
asked_by ReadCommitted found Others (Newer m r) = refl
asked_by ReadCommitted found OthersAtNoWait (Newer m r) = refl
asked_by ReadCommitted found OthersSkipped (Newer m r) = refl
asked_by ReadCommitted found Nobody Same = refl
asked_by ReadCommitted found Nobody Gone = refl
asked_by ReadCommitted found Nobody (Newer m r) = refl
asked_by RepeatableRead found Nobody Same = refl
asked_by RepeatableRead found Others Same = refl
asked_by RepeatableRead found OthersAtNoWait Same = refl
asked_by RepeatableRead found OthersSkipped Same = refl
asked_by RepeatableRead found OthersInACycle Same = refl
asked_by RepeatableRead found Nobody Gone = refl
asked_by RepeatableRead found Others Gone = refl
asked_by RepeatableRead found OthersAtNoWait Gone = refl
asked_by RepeatableRead found OthersSkipped Gone = refl
asked_by RepeatableRead found OthersInACycle Gone = refl
asked_by RepeatableRead found Nobody (Newer m r) = refl
asked_by RepeatableRead found Others (Newer m r) = refl
asked_by RepeatableRead found OthersAtNoWait (Newer m r) = refl
asked_by RepeatableRead found OthersSkipped (Newer m r) = refl
asked_by RepeatableRead found OthersInACycle (Newer m r) = refl

-- where memory is asked for, by who holds the target and by its newest version
pub memory_is : (c : Content) (held : List Held) (waits : List Waiting) (ask : Asked) → asks_for_memory c held waits ask ≡ is_looked_at ask.level (holders held waits ask) (newest_version c ask)
memory_is c held waits ask =
    ap asks (outcome_is c held waits (bare ask))
    ∙ ap (λ v. asks (outcome ask.level ask.seen (holders held waits ask) v)) (passed_of c ask (newest_of c ask.seen.row ask.tx))
    ∙ asked_by ask.level ask.seen (holders held waits ask) (newest_version c ask)

-- the first two, where the level and the newest version are known
pub outcome_at : (c : Content) (held : List Held) (waits : List Waiting) (ask : Asked) (l : Level) (v : Version) → ask.level ≡ l → v ≡ newest_version c ask
    → target_outcome c held waits ask ≡ outcome l ask.seen (holders held waits ask) v
outcome_at c held waits ask l v is found =
    outcome_is c held waits ask
    ∙ ap (λ k. outcome k ask.seen (holders held waits ask) (newest_version c ask)) is
    ∙ ap (outcome l ask.seen (holders held waits ask)) (sym found)

pub locked_at : (c : Content) (held : List Held) (waits : List Waiting) (ask : Asked) (l : Level) (v : Version) → ask.level ≡ l → v ≡ newest_version c ask
    → is_target_locked c held waits ask ≡ is_locked l (holders held waits ask) v
locked_at c held waits ask l v is found =
    locked_is c held waits ask
    ∙ ap (λ k. is_locked k (holders held waits ask) (newest_version c ask)) is
    ∙ ap (is_locked l (holders held waits ask)) (sym found)
