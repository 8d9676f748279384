-- How the waiting list is gone through.
use Rattle.std.specs.Prelude.{ℕ, nat_lt, ◌==◌, Bool, not, ◌&&◌, List, [], ◌∷◌, ◌++◌, length, drop, if◌then◌else◌}
use Rattle.std.specs.List.{fold, list_any, range_with_len}
use Rattle.report_lines.specs.declared.history.Line.{Line}
use Rattle.report_lines.specs.declared.history.Line.TheVariants.{AtOnce, Waiting}
use Rattle.report_lines.specs.declared.history.Moment.{Moment}
use Rattle.report_lines.specs.declared.lines_so_far.Chosen.{Chosen}
use Rattle.report_lines.specs.declared.lines_so_far.Chosen.TheVariants.{Joined, Own}
use Rattle.report_lines.specs.History.{PermutationRun}
use Rattle.report_lines.specs.Code.Walk.{is_star, markers_of}
use Rattle.report_lines.specs.Report.{active}
use Rattle.report_lines.specs.Code.Walk.{is_of, can_report, try_again}

-- the entries before this one, in order
abbrev pub instances : ℕ → List ℕ
instances n = range_with_len 0 n

-- the instance has a marker
abbrev pub is_marked : PermutationRun → ℕ → Bool
is_marked c i = not (length (markers_of c i) == 0)

-- the first try of an instance
abbrev pub first_try : PermutationRun → Moment → List Line → ℕ → List Line
first_try c m lines i = lines ++ (if can_report c m lines i && not (list_any is_star (markers_of c i)) then AtOnce i m.seen else Waiting i) ∷ []

-- the waiting list is gone through once
abbrev pub pass : PermutationRun → Moment → List Line → List Line
pass c m lines = fold (try_again c m) lines (instances m.joined)

abbrev pub is_chosen : PermutationRun → Moment → Chosen → ℕ → Bool
is_chosen c m Joined i = nat_lt i m.joined
is_chosen c m (Own session) i = is_of c session i

-- a later try of a step, if it is of this session
abbrev pub own_retry : PermutationRun → Moment → ℕ → List Line → ℕ → List Line
own_retry c m session lines i = if is_of c session i then try_again c m lines i else lines

-- a later try of a step, if it is chosen
abbrev pub chosen_retry : PermutationRun → Moment → Chosen → List Line → ℕ → List Line
chosen_retry c m chosen lines i = if is_chosen c m chosen i then try_again c m lines i else lines

-- the lines once the chosen steps of the waiting list are tried from this place on
abbrev pub retried_from : PermutationRun → Moment → Chosen → List Line → ℕ → ℕ → List Line
retried_from c m chosen lines launched place = fold (chosen_retry c m chosen) lines (drop place (active lines launched))
