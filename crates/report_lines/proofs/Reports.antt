-- How the report goes on at each entry.
use Rattle.std.proofs.Common.{◌≡◌, ◌==◌, ℕ, zero, suc, ◌+◌, ◌-◌, ◌<◌, ◌≤◌, List, [], length, refl, ap, sym, ◌∙◌, arith, Bool, true, false, if◌then◌else◌, nat_lt}
use Rattle.std.proofs.lemmas.Bool.{le-ltb}
use Rattle.report_lines.specs.declared.history.Line.{Line}
use Rattle.report_lines.specs.declared.history.RunState.{RunState}
use Rattle.report_lines.specs.declared.history.RunState.TheVariants.{Due, Whole, Invalid}
use Rattle.report_lines.specs.History.{PermutationRun}
use Rattle.report_lines.specs.Report.{Report, moment_of, active}
use Rattle.report_lines.specs.Code.Walk.{walked, walked_from, before_launch, after_launch, all_polls, has_unreported}

-- where the entries come to an end
pub report_end : (c : PermutationRun) (n e count : ℕ) (lines : List Line) → n ≤ e → walked_from c e (n - e) count lines ≡ (let all = all_polls c (moment_of c e e) lines in record { lines = all; state = if length (active all e) == 0 then Whole else Invalid })
report_end c n e count lines h = let over : n - e ≡ 0 = omega arith in rw over refl

-- at an entry of which no segment is there
pub report_stuck : (c : PermutationRun) (n e : ℕ) (lines way : List Line) → e < n → way ≡ before_launch c lines e → has_unreported c way e ≡ true → walked_from c e (n - e) e lines ≡ record { lines = way; state = Invalid }
report_stuck c n e lines way h is busy =
    let more : n - e ≡ suc (n - (e + 1)) = omega arith in
    let busy_way : has_unreported c (before_launch c lines e) e ≡ true = ap (λ (w : List Line). has_unreported c w e) (sym is) ∙ busy in
    rw (more, busy_way, is) refl

pub report_due : (c : PermutationRun) (n e : ℕ) (lines way : List Line) → e < n → way ≡ before_launch c lines e → has_unreported c way e ≡ false → walked_from c e (n - e) e lines ≡ record { lines = way; state = Due e }
report_due c n e lines way h is free =
    let more : n - e ≡ suc (n - (e + 1)) = omega arith in
    let absent : nat_lt e e ≡ false = le-ltb e e (omega arith) in
    let free_way : has_unreported c (before_launch c lines e) e ≡ false = ap (λ (w : List Line). has_unreported c w e) (sym is) ∙ free in
    rw (more, free_way, absent, is) refl

-- ---- with no segment

pub report_none : (c : PermutationRun) → length c.entries ≡ 0 → walked c 0 ≡ record { lines = []; state = Whole }
report_none c none = rw none refl

pub report_some : (c : PermutationRun) (more : ℕ) → length c.entries ≡ suc more → walked c 0 ≡ record { lines = []; state = Due 0 }
report_some c more some = rw some refl

same_first : (c d : PermutationRun) (n : ℕ) → length c.entries ≡ n → length d.entries ≡ n → walked c 0 ≡ walked d 0
same_first c d zero one other = report_none c one ∙ sym (report_none d other)
same_first c d (suc n) one other = report_some c n one ∙ sym (report_some d n other)

-- it is the same whatever the history is
pub first_same : (c d : PermutationRun) → length c.entries ≡ length d.entries → walked c 0 ≡ walked d 0
first_same c d same = same_first c d (length d.entries) same refl

-- ---- with a segment more

pub whole_due : (d : ℕ) → (let s : RunState = Whole in let t : RunState = Due d in s ≡ t) → ⊥
whole_due d h = cc

pub invalid_due : (d : ℕ) → (let s : RunState = Invalid in let t : RunState = Due d in s ≡ t) → ⊥
invalid_due d h = cc

same_due : (e d : ℕ) → (let s : RunState = Due e in let t : RunState = Due d in s ≡ t) → e ≡ d
same_due e d h = cc

ends_so : (b : Bool) (d : ℕ) → (if b then Whole else Invalid) ≡ Due d → ⊥
ends_so true d h = whole_due d h
ends_so false d h = invalid_due d h

-- an entry is due, as the first without a segment
record Next (c : PermutationRun) (e rest count : ℕ) (lines way : List Line) (d : ℕ) : Type 0 where
  first : d ≡ count
  within : count < e + rest
  goes_on : walked_from c e rest (count + 1) lines ≡ walked_from c (count + 1) (e + rest - (count + 1)) (count + 1) (after_launch c way count)

next_case : (c : PermutationRun) (e rest count : ℕ) (lines way : List Line) (d : ℕ) (busy past : Bool) → busy ≡ has_unreported c (before_launch c lines e) e → past ≡ nat_lt e count → e ≤ count
    → (e + 1 ≤ count → walked_from c (e + 1) rest count (after_launch c (before_launch c lines e) e) ≡ record { lines = way; state = Due d } → Next c (e + 1) rest count (after_launch c (before_launch c lines e) e) way d)
    → (if busy then record { lines = before_launch c lines e; state = Invalid } else (if past then walked_from c (e + 1) rest count (after_launch c (before_launch c lines e) e) else record { lines = before_launch c lines e; state = Due e })) ≡ record { lines = way; state = Due d }
    → Next c e (suc rest) count lines way d
next_case c e rest count lines way d true past is_b is_p le later h = absurd (invalid_due d (ap (λ (r : Report). r.state) h))
next_case c e rest count lines way d false true is_b is_p le later h =
    let more : e + 1 ≤ count = grind arith in
    let n = later more h in
    let on : nat_lt e (count + 1) ≡ true = grind arith in
    let far : e + 1 + rest ≡ e + suc rest = omega arith in
    record {
      first = n.first;
      within = omega (arith, n.within);
      goes_on = rw (sym is_b, on) (n.goes_on ∙ ap (λ k. walked_from c (count + 1) (k - (count + 1)) (count + 1) (after_launch c way count)) far);
    }
next_case c e rest count lines way d false false is_b is_p le later h =
    let same : e ≡ count = grind arith in
    let on : nat_lt e (count + 1) ≡ true = grind arith in
    let left : rest ≡ e + suc rest - (count + 1) = omega (arith, same) in
    let lines_are : before_launch c lines e ≡ way = ap (λ (r : Report). r.lines) h in
    let due_is = same_due e d (ap (λ (r : Report). r.state) h) in
    record {
      first = sym due_is ∙ same;
      within = omega (arith, same);
      goes_on = rw (sym is_b, on) (ap (λ (w : List Line). walked_from c (e + 1) rest (count + 1) (after_launch c w e)) lines_are
          ∙ ap (λ k. walked_from c (k + 1) rest (count + 1) (after_launch c way k)) same
          ∙ ap (λ k. walked_from c (count + 1) k (count + 1) (after_launch c way count)) left);
    }

from_next : (c : PermutationRun) (e rest count : ℕ) (lines way : List Line) (d : ℕ) → e ≤ count → walked_from c e rest count lines ≡ record { lines = way; state = Due d } → Next c e rest count lines way d
from_next c e zero count lines way d le h = absurd (ends_so (length (active (all_polls c (moment_of c e e) lines) e) == 0) d (ap (λ (r : Report). r.state) h))
from_next c e (suc rest) count lines way d le h =
    next_case c e rest count lines way d (has_unreported c (before_launch c lines e) e) (nat_lt e count) refl refl le
    (λ more h'. from_next c (e + 1) rest count (after_launch c (before_launch c lines e) e) way d more h') h

pub report_next : (c : PermutationRun) (count : ℕ) (way : List Line) (d : ℕ) → walked c count ≡ record { lines = way; state = Due d } → walked c (count + 1) ≡ walked_from c (count + 1) (length c.entries - (count + 1)) (count + 1) (after_launch c way count)
report_next c count way d h =
    let n = from_next c 0 (length c.entries) count [] way d (omega arith) h in
    let all : 0 + length c.entries ≡ length c.entries = omega arith in
    n.goes_on ∙ ap (λ k. walked_from c (count + 1) (k - (count + 1)) (count + 1) (after_launch c way count)) all

abbrev pub is_due : RunState → Bool
is_due (Due d) = true
is_due Whole = false
is_due Invalid = false

not_due : (s : RunState) (e : ℕ) → is_due s ≡ false → Due e ≡ s → ⊥
not_due (Due d) e over h = cc
not_due Whole e over h = whole_due e (sym h)
not_due Invalid e over h = invalid_due e (sym h)

over_case : (c : PermutationRun) (e rest count : ℕ) (lines way : List Line) (s : RunState) (busy past : Bool) → busy ≡ has_unreported c (before_launch c lines e) e → past ≡ nat_lt e count → is_due s ≡ false
    → (walked_from c (e + 1) rest count (after_launch c (before_launch c lines e) e) ≡ record { lines = way; state = s } → walked_from c (e + 1) rest (count + 1) (after_launch c (before_launch c lines e) e) ≡ record { lines = way; state = s })
    → (if busy then record { lines = before_launch c lines e; state = Invalid } else (if past then walked_from c (e + 1) rest count (after_launch c (before_launch c lines e) e) else record { lines = before_launch c lines e; state = Due e })) ≡ record { lines = way; state = s }
    → walked_from c e (suc rest) (count + 1) lines ≡ record { lines = way; state = s }
over_case c e rest count lines way s true past is_b is_p over later h = rw (sym is_b) h
over_case c e rest count lines way s false true is_b is_p over later h = let on : nat_lt e (count + 1) ≡ true = grind arith in rw (sym is_b, on) (later h)
over_case c e rest count lines way s false false is_b is_p over later h = absurd (not_due s e over (ap (λ (r : Report). r.state) h))

from_over : (c : PermutationRun) (e rest count : ℕ) (lines way : List Line) (s : RunState) → is_due s ≡ false → walked_from c e rest count lines ≡ record { lines = way; state = s } → walked_from c e rest (count + 1) lines ≡ record { lines = way; state = s }
from_over c e zero count lines way s over h = h
from_over c e (suc rest) count lines way s over h =
    over_case c e rest count lines way s (has_unreported c (before_launch c lines e) e) (nat_lt e count) refl refl over
    (from_over c (e + 1) rest count (after_launch c (before_launch c lines e) e) way s over) h

-- what is whole or invalid stays so
pub report_over : (c : PermutationRun) (count : ℕ) (way : List Line) (s : RunState) → is_due s ≡ false → walked c count ≡ record { lines = way; state = s } → walked c (count + 1) ≡ record { lines = way; state = s }
report_over c count way s over h = from_over c 0 (length c.entries) count [] way s over h
