-- Lines are never taken back, so that each try that reports makes them longer.
use Rattle.std.proofs.Common.{◌≡◌, ℕ, zero, suc, ◌+◌, ◌-◌, ◌<◌, ◌≤◌, List, [], ◌∷◌, ◌++◌, length, length-append, drop, sym, ap, subst, arith, true, false, Bool, not, ◌&&◌, Some, slice_get, if◌then◌else◌}
use Rattle.std.specs.List.{fold}
use Rattle.report_lines.specs.declared.history.Line.{Line}
use Rattle.report_lines.specs.declared.history.Line.TheVariants.{Completed}
use Rattle.report_lines.specs.declared.history.Moment.{Moment}
use Rattle.report_lines.specs.declared.lines_so_far.Chosen.{Chosen}
use Rattle.report_lines.specs.History.{PermutationRun}
use Rattle.report_lines.specs.Report.{active}
use Rattle.report_lines.specs.Code.Walk.{can_report, try_again, polls_again, polled, is_of}
use Rattle.report_lines.specs.Inner.Waiting.{is_reported}
use Rattle.report_lines.specs.Inner.Trying.{instances, pass, is_chosen, chosen_retry, retried_from}
use Rattle.report_lines.proofs.Passes.{try_reports}

pub one_longer : (lines : List Line) (l : Line) → length (lines ++ l ∷ []) ≡ length lines + 1
one_longer lines l = length-append lines (l ∷ [])

if_grows : (b : Bool) (lines : List Line) (l : Line) → length lines ≤ length (if b then lines ++ l ∷ [] else lines)
if_grows true lines l = let long = one_longer lines l in omega (arith, long)
if_grows false lines l = omega arith

try_grows : (c : PermutationRun) (m : Moment) (lines : List Line) (i : ℕ) → length lines ≤ length (try_again c m lines i)
try_grows c m lines i = if_grows (not (is_reported lines i) && can_report c m lines i) lines (Completed i m.seen)

chosen_grows : (c : PermutationRun) (m : Moment) (chosen : Chosen) (lines : List Line) (i : ℕ) → length lines ≤ length (chosen_retry c m chosen lines i)
chosen_grows c m chosen lines i = by (is_chosen c m chosen i) where
  by : (b : Bool) → length lines ≤ length (if b then try_again c m lines i else lines)
  by true = try_grows c m lines i
  by false = omega arith

fold_grows : (f : List Line → ℕ → List Line) → ((w : List Line) (i : ℕ) → length w ≤ length (f w i)) → (xs : List ℕ) (lines : List Line) → length lines ≤ length (fold f lines xs)
fold_grows f grows [] lines = omega arith
fold_grows f grows (x ∷ xs) lines = let one = grows lines x in let rest = fold_grows f grows xs (f lines x) in omega (arith, one, rest)

-- a try of the waiting list that reports
pub try_adds : (c : PermutationRun) (m : Moment) (chosen : Chosen) (lines : List Line) (n place e : ℕ) → slice_get (active lines n) place ≡ Some e → (is_chosen c m chosen e && can_report c m lines e) ≡ true
    → length lines < length (retried_from c m chosen lines n place)
try_adds c m chosen lines n place e h can =
    let told = lines ++ Completed e m.seen ∷ [] in
    let one = one_longer lines (Completed e m.seen) in
    let rest : length told ≤ length (retried_from c m chosen told n place) = fold_grows (chosen_retry c m chosen) (chosen_grows c m chosen) (drop place (active told n)) told in
    let same = ap length (try_reports c m chosen lines n place e h can) in
    omega (arith, one, rest, same)

-- a pass, and those that follow it
pub pass_grows : (c : PermutationRun) (m : Moment) (lines : List Line) → length lines ≤ length (pass c m lines)
pass_grows c m lines = fold_grows (try_again c m) (try_grows c m) (instances m.joined) lines

pub polled_grows : (c : PermutationRun) (m : Moment) (n : ℕ) (lines : List Line) → length lines ≤ length (polled c m n lines)
polled_grows c m zero lines = omega arith
polled_grows c m (suc n) lines = by (polled_grows c m n (pass c m lines)) (polls_again c m lines (pass c m lines)) where
  by : length (pass c m lines) ≤ length (polled c m n (pass c m lines)) → (b : Bool) → length lines ≤ length (if b then polled c m n (pass c m lines) else pass c m lines)
  by rest true = let one = pass_grows c m lines in omega (arith, one, rest)
  by rest false = pass_grows c m lines

first_of_all : (c : PermutationRun) (m : Moment) (n : ℕ) (lines : List Line) → length (pass c m lines) ≤ length (polled c m (suc n) lines)
first_of_all c m n lines = by (polls_again c m lines (pass c m lines)) where
  by : (b : Bool) → length (pass c m lines) ≤ length (if b then polled c m n (pass c m lines) else pass c m lines)
  by true = polled_grows c m n (pass c m lines)
  by false = omega arith

-- a pass among so many
pub poll_adds : (c : PermutationRun) (m : Moment) (end turn : ℕ) (old now all : List Line) → turn < end → length old ≤ length now → polled c m (end - turn) now ≡ all → length now < length (pass c m now) → length old < length all
poll_adds c m end turn old now all h grown is adds =
    let one : end - turn ≡ suc (end - (turn + 1)) = omega (arith, h) in
    let first = subst (λ (k : ℕ). length (pass c m now) ≤ length (polled c m k now)) (sym one) (first_of_all c m (end - (turn + 1)) now) in
    let same = ap length is in
    omega (arith, grown, adds, first, same)
