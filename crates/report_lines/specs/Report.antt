-- To be believed. What is said of the entries: at each moment the tries in their order, each step at the first try at which it can be reported. An instance is an entry by its number from 0.
use Rattle.std.specs.Prelude.{ℕ, zero, suc, ◌+◌, ◌==◌, nat_lt, Bool, true, false, not, ◌&&◌, List, [], ◌∷◌, ◌++◌, length, filter_map, slice_get, if◌then◌else◌}
use Rattle.std.specs.List.{list_any, filter, fold, range_with_len}
use Rattle.spec_parser.specs.Trees.{EntryTree}
use Rattle.spec_parser.specs.declared.tree.Marker.{Marker}
use Rattle.spec_parser.specs.declared.tree.Marker.TheVariants.{Star, Step as Named}
use Rattle.report_lines.specs.declared.history.Line.{Line}
use Rattle.report_lines.specs.declared.history.Line.TheVariants.{AtOnce, Waiting, Completed}
use Rattle.report_lines.specs.declared.history.Moment.{Moment}
use Rattle.report_lines.specs.declared.history.RunState.{RunState}
use Rattle.report_lines.specs.declared.history.RunState.TheVariants.{Due, Whole, Invalid}
use Rattle.report_lines.specs.History.{PermutationRun, entry_at, seen_before, has_ended}

-- the line reports the instance
abbrev pub reports : ℕ → Line → Bool
reports i line = elim line [ AtOnce entry seen ↦ i == entry | Waiting entry ↦ false | Completed entry seen ↦ i == entry ]

-- of so many launched instances those that are not reported
abbrev pub active : List Line → ℕ → List ℕ
active lines launched = filter (λ j. not (list_any (reports j) lines)) (range_with_len 0 launched)

-- so many entries are launched, with their segments there, and so many of them have come to the waiting list
abbrev pub moment_of : PermutationRun → ℕ → ℕ → Moment
moment_of c launched joined = record { seen = seen_before c launched; launched = launched; joined = joined }

-- a marker holds an instance back: a star at its first try, and else while an active instance is of the step that the marker names
abbrev pub holds : PermutationRun → List ℕ → Bool → Marker → Bool
holds c waiting is_first Star = is_first
holds c waiting is_first (Named session step) = list_any (λ (e : EntryTree). (session == e.session) && (step == e.step)) (filter_map (slice_get c.entries) waiting)

-- a try of an instance reports it: its block has ended, and none of its markers holds it back
abbrev pub may_report : PermutationRun → Moment → List Line → Bool → ℕ → Bool
may_report c m lines is_first i = has_ended c m.seen i && not (list_any (holds c (active lines m.launched) is_first) (entry_at c i).markers)

-- a try of an instance that isn't its first
abbrev pub retry : PermutationRun → Moment → List Line → ℕ → List Line
retry c m lines i = if not (list_any (reports i) lines) && may_report c m lines false i then lines ++ Completed i m.seen ∷ [] else lines

-- the waiting list is gone through again and again, and so often that once more would report nothing
abbrev pub poll : PermutationRun → Moment → List Line → List Line
poll c m lines = fold (λ told turn. fold (retry c m) told (range_with_len 0 m.joined)) lines (range_with_len 0 (m.joined + 1))

-- of the launched instances, which come before this entry, the active ones of its session
abbrev pub rivals : PermutationRun → List Line → ℕ → List ℕ
rivals c lines e = filter (λ i. (entry_at c i).session == (entry_at c e).session) (active lines e)

-- the tries before an entry's Launch: where its session has an active step, the session's steps first
abbrev pub made_way : PermutationRun → List Line → ℕ → List Line
made_way c lines e = let m = moment_of c e e in if length (rivals c lines e) == 0 then lines else poll c m (fold (retry c m) lines (rivals c lines e))

-- the tries after it: the new step first
abbrev pub launched : PermutationRun → List Line → ℕ → List Line
launched c lines e = let m = moment_of c (e + 1) e in poll c m (lines ++ (if may_report c m lines true e then AtOnce e m.seen else Waiting e) ∷ [])

pub record Report : Type 0 where
  pub lines : List Line
  pub state : RunState

-- the report of the entries from one on, of whose segments so many are there
abbrev pub report_from : PermutationRun → ℕ → ℕ → ℕ → List Line → Report
report_from c e zero count lines =
    let all = poll c (moment_of c e e) lines in record { lines = all; state = if length (active all e) == 0 then Whole else Invalid }
report_from c e (suc rest) count lines =
    let way = made_way c lines e in
    if not (length (rivals c way e) == 0) then record { lines = way; state = Invalid }
    else if nat_lt e count then report_from c (e + 1) rest count (launched c way e) else record { lines = way; state = Due e }

abbrev pub report : PermutationRun → ℕ → Report
report c count = report_from c 0 (length c.entries) count []
