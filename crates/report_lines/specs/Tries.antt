-- The report in the words of its rules: what is tried at each moment, when a try reports, and what it says.
-- In a list of tries the latest comes first.
use Rattle.std.specs.Prelude.{◌≡◌, ℕ, zero, suc, ◌+◌, ◌==◌, nat_lt, Bool, true, false, not, ◌&&◌, ◌||◌, List, [], ◌∷◌, ◌++◌, length, if◌then◌else◌}
use Rattle.std.specs.List.{list_any, filter, range_with_len}
use Rattle.report_lines.specs.declared.history.Line.{Line}
use Rattle.report_lines.specs.declared.history.Line.TheVariants.{AtOnce, Waiting, Completed}
use Rattle.report_lines.specs.declared.history.Moment.{Moment}
use Rattle.report_lines.specs.History.{PermutationRun}
use Rattle.report_lines.specs.Code.Walk.{session_of_entry, block_ended, is_awaited, is_star, markers_of}
use Rattle.report_lines.specs.Report.{moment_of}
use Rattle.report_lines.specs.Code.Walk.{is_of}

-- an instance is tried at a moment
pub record Try : Type 0 where
  pub entry : ℕ
  pub moment : Moment

abbrev pub is_try_of : ℕ → Try → Bool
is_try_of i t = i == t.entry

-- none of the tries is one of this instance
abbrev pub is_untried : List Try → ℕ → Bool
is_untried tries i = not (list_any (is_try_of i) tries)

-- the condition of a try: the block has ended in the items so far, no instance of a step that a marker names is active, and, with a star, the try isn't the first
abbrev pub may_be_reported : PermutationRun → List ℕ → Bool → Try → Bool
may_be_reported c active is_first t =
    block_ended c t.moment.seen t.entry && not (list_any (is_awaited c t.entry) active) && not (is_first && list_any is_star (markers_of c t.entry))

-- the condition was met at one of the tries of this instance
abbrev pub was_reported : PermutationRun → List Try → ℕ → Bool
was_reported c [] i = false
was_reported c (t ∷ earlier) i =
    was_reported c earlier i
    || (is_try_of i t && may_be_reported c (filter (λ j. not (was_reported c earlier j)) (range_with_len 0 t.moment.launched)) (is_untried earlier t.entry) t)

-- after these tries, of so many launched instances those that are still active
abbrev pub still_active : PermutationRun → List Try → ℕ → List ℕ
still_active c tries launched = filter (λ j. not (was_reported c tries j)) (range_with_len 0 launched)

-- a try that follows these meets its condition
abbrev pub is_met : PermutationRun → List Try → Try → Bool
is_met c earlier t = may_be_reported c (still_active c earlier t.moment.launched) (is_untried earlier t.entry) t

-- what a try says: the first that meets the condition reports the instance, and the first one else says that it waits
abbrev pub says : PermutationRun → List Try → Try → List Line
says c earlier t =
    if was_reported c earlier t.entry then []
    else (if is_met c earlier t then (if is_untried earlier t.entry then AtOnce t.entry t.moment.seen else Completed t.entry t.moment.seen) ∷ []
    else (if is_untried earlier t.entry then Waiting t.entry ∷ [] else []))

abbrev pub said : PermutationRun → List Try → List Line
said c [] = []
said c (t ∷ earlier) = said c earlier ++ says c earlier t

-- these instances are tried in turn
abbrev pub try_each : Moment → List Try → List ℕ → List Try
try_each m tries [] = tries
try_each m tries (i ∷ more) = try_each m (record { entry = i; moment = m } ∷ tries) more

-- the waiting list is gone through once
abbrev pub gone_through : PermutationRun → Moment → List Try → List Try
gone_through c m tries = try_each m tries (still_active c tries m.joined)

-- in the last pass a step was reported, and a step that remains has a marker
abbrev pub wants_another : PermutationRun → Moment → List Try → List Try → Bool
wants_another c m old new = list_any (was_reported c new) (still_active c old m.joined) && list_any (λ j. not (length (markers_of c j) == 0)) (still_active c new m.joined)

abbrev pub passes : PermutationRun → Moment → ℕ → List Try → List Try
passes c m zero tries = tries
passes c m (suc more) tries =
    let new = gone_through c m tries in if wants_another c m tries new then passes c m more new else new

-- the first pass and those that follow; there are never more than so many
abbrev pub all_passes : PermutationRun → Moment → List Try → List Try
all_passes c m tries = passes c m (m.joined + 1) tries

-- the session of an entry has an active step
abbrev pub has_active : PermutationRun → List Try → ℕ → Bool
has_active c tries e = list_any (is_of c (session_of_entry c e)) (still_active c tries e)

-- before an entry's Launch, if its session has an active step: that step first
abbrev pub tries_before : PermutationRun → List Try → ℕ → List Try
tries_before c tries e =
    let m = moment_of c e e in
    if has_active c tries e then all_passes c m (try_each m tries (filter (is_of c (session_of_entry c e)) (still_active c tries e))) else tries

-- after an entry's segment: the new step first
abbrev pub tries_after : PermutationRun → List Try → ℕ → List Try
tries_after c tries e = let m = moment_of c (e + 1) e in all_passes c m (record { entry = e; moment = m } ∷ tries)

-- the tries of the entries from one on, of whose segments so many are there
abbrev pub tries_from : PermutationRun → ℕ → ℕ → ℕ → List Try → List Try
tries_from c e zero count tries = all_passes c (moment_of c e e) tries
tries_from c e (suc rest) count tries =
    let way = tries_before c tries e in
    if has_active c way e then way
    else (if nat_lt e count then tries_from c (e + 1) rest count (tries_after c way e) else way)

abbrev pub tries : PermutationRun → ℕ → List Try
tries c count = tries_from c 0 (length c.entries) count []

-- the line reports the instance at the first of its tries that meets the condition
pub record IsReportPoint (c : PermutationRun) (tries : List Try) (i : ℕ) (line : Line) : Type 0 where
  pub later : List Try
  pub t : Try
  pub earlier : List Try
  pub stands : tries ≡ later ++ t ∷ earlier
  pub of : i ≡ t.entry
  pub met : is_met c earlier t ≡ true
  pub first : (behind : List Try) (u : Try) (ahead : List Try) → earlier ≡ behind ++ u ∷ ahead → i ≡ u.entry → is_met c ahead u ≡ false
  pub is : line ≡ (if is_untried earlier i then AtOnce i t.moment.seen else Completed i t.moment.seen)
