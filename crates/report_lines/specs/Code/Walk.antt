-- The report as the code goes through it, with a list of the entries that wait, and what it asks of an entry by its number.
use Rattle.std.specs.Prelude.{ℕ, zero, suc, ◌+◌, ◌==◌, nat_lt, Bool, true, false, not, ◌&&◌, List, [], ◌∷◌, ◌++◌, length, slice_get, slice_range, if◌then◌else◌}
use Rattle.std.specs.List.{list_any, filter, fold, range_with_len}
use Rattle.std.specs.Option.{option_map_or}
use Rattle.spec_parser.specs.Trees.{EntryTree}
use Rattle.spec_parser.specs.declared.tree.Marker.{Marker}
use Rattle.spec_parser.specs.declared.tree.Marker.TheVariants.{Star, Step as Named}
use Rattle.report_lines.specs.declared.history.Line.{Line}
use Rattle.report_lines.specs.declared.history.Line.TheVariants.{AtOnce, Waiting, Completed}
use Rattle.report_lines.specs.declared.history.Moment.{Moment}
use Rattle.report_lines.specs.declared.history.RunState.TheVariants.{Due, Whole, Invalid}
use Rattle.report_lines.specs.Starts.{ends_in}
use Rattle.report_lines.specs.History.{PermutationRun, seen_before}
use Rattle.report_lines.specs.Report.{Report, reports, active, moment_of}

-- the session of an instance, which is an entry by its number from 0
abbrev pub session_of_entry : PermutationRun → ℕ → ℕ
session_of_entry c i = option_map_or (λ (e : EntryTree). e.session) (slice_get c.entries i) 0

-- the instance's block has ended in the items so far
abbrev pub block_ended : PermutationRun → ℕ → ℕ → Bool
block_ended c seen i = list_any (ends_in (session_of_entry c i)) (slice_range c.items (seen_before c i) seen)

-- a marker names the entry's step
abbrev pub names : EntryTree → Marker → Bool
names e Star = false
names e (Named session step) = (session == e.session) && (step == e.step)

abbrev pub is_star : Marker → Bool
is_star Star = true
is_star (Named session step) = false

-- the markers of an instance
abbrev pub markers_of : PermutationRun → ℕ → List Marker
markers_of c i = option_map_or (λ (e : EntryTree). e.markers) (slice_get c.entries i) []

-- the step of the second instance is named by a marker of the first
abbrev pub is_awaited : PermutationRun → ℕ → ℕ → Bool
is_awaited c i j = option_map_or (λ (e : EntryTree). list_any (names e) (markers_of c i)) (slice_get c.entries j) false

-- the instance's block has ended, and no step that its markers name is active
abbrev pub can_report : PermutationRun → Moment → List Line → ℕ → Bool
can_report c m lines i = block_ended c m.seen i && not (list_any (is_awaited c i) (active lines m.launched))

-- a try of an instance that isn't its first
abbrev pub try_again : PermutationRun → Moment → List Line → ℕ → List Line
try_again c m lines i = if not (list_any (reports i) lines) && can_report c m lines i then lines ++ Completed i m.seen ∷ [] else lines

-- the last pass reported a step, and a step that remains on the waiting list has a marker
abbrev pub polls_again : PermutationRun → Moment → List Line → List Line → Bool
polls_again c m old new = nat_lt (length old) (length new) && list_any (λ j. nat_lt j m.joined && not (length (markers_of c j) == 0)) (active new m.launched)

-- the waiting list is gone through, so many times at most
abbrev pub polled : PermutationRun → Moment → ℕ → List Line → List Line
polled c m zero lines = lines
polled c m (suc more) lines = let new = fold (try_again c m) lines (range_with_len 0 m.joined) in if polls_again c m lines new then polled c m more new else new

-- the passes of a moment; there are never more than so many
abbrev pub all_polls : PermutationRun → Moment → List Line → List Line
all_polls c m lines = polled c m (m.joined + 1) lines

-- the instance is one of the session
abbrev pub is_of : PermutationRun → ℕ → ℕ → Bool
is_of c session i = session_of_entry c i == session

-- the session of an entry that is to be launched has an active step
abbrev pub has_unreported : PermutationRun → List Line → ℕ → Bool
has_unreported c lines e = list_any (is_of c (session_of_entry c e)) (active lines e)

-- the tries before an entry's Launch: where its session has an active step, the session's steps first
abbrev pub before_launch : PermutationRun → List Line → ℕ → List Line
before_launch c lines e =
    let m = moment_of c e e in if has_unreported c lines e then all_polls c m (fold (try_again c m) lines (filter (is_of c (session_of_entry c e)) (range_with_len 0 e))) else lines

-- the tries after it: the new step first, which a star keeps from being reported at once
abbrev pub after_launch : PermutationRun → List Line → ℕ → List Line
after_launch c lines e =
    let m = moment_of c (e + 1) e in all_polls c m (lines ++ (if can_report c m lines e && not (list_any is_star (markers_of c e)) then AtOnce e m.seen else Waiting e) ∷ [])

-- the report of the entries from one on, of whose segments so many are there
abbrev pub walked_from : PermutationRun → ℕ → ℕ → ℕ → List Line → Report
walked_from c e zero count lines =
    let all = all_polls c (moment_of c e e) lines in record { lines = all; state = if length (active all e) == 0 then Whole else Invalid }
walked_from c e (suc rest) count lines =
    let way = before_launch c lines e in
    if has_unreported c way e then record { lines = way; state = Invalid }
    else if nat_lt e count then walked_from c (e + 1) rest count (after_launch c way e) else record { lines = way; state = Due e }

abbrev pub walked : PermutationRun → ℕ → Report
walked c count = walked_from c 0 (length c.entries) count []
