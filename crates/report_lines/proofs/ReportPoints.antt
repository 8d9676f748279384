-- Each instance is reported at the first of its tries that meets the condition, and only there.
use Rattle.std.proofs.Common.{◌≡◌, ℕ, zero, suc, ◌+◌, ◌<◌, ◌≤◌, ◌⊎◌, ◌↔◌, List, [], ◌∷◌, ◌++◌, length, length-append, refl, ap, sym, ◌∙◌, subst, arith, true, false, Bool, cond, ◌==◌, ◌&&◌, ◌||◌, if◌then◌else◌, inl, inr}
use Rattle.std.specs.List.{filter, count_by, Contains}
use Rattle.std.proofs.lemmas.List.Elements.{filter-append, Contains-append_left, Contains-append_right, Contains-append_cases}
use Rattle.std.proofs.lemmas.List.Sums.{length-filter}
use Rattle.std.proofs.lemmas.Bool.{eqb-true, eq-eqb}
use Rattle.report_lines.specs.declared.history.Line.{Line}
use Rattle.report_lines.specs.declared.history.Line.TheVariants.{AtOnce, Waiting, Completed}
use Rattle.report_lines.specs.History.{PermutationRun}
use Rattle.report_lines.specs.Report.{reports}
use Rattle.report_lines.specs.Code.Walk.{walked}
use Rattle.report_lines.specs.Tries.{Try, is_untried, was_reported, is_met, says, said, tries, IsReportPoint}
use Rattle.report_lines.proofs.Tried.{lines_are_said}

-- what a try says, by its three answers
abbrev speaks : Bool → Bool → Bool → ℕ → ℕ → List Line
speaks was met new e s = if was then [] else (if met then (if new then AtOnce e s else Completed e s) ∷ [] else (if new then Waiting e ∷ [] else []))

once_other : (b met : Bool) → (b ≡ true → true ≡ false) → 0 + 0 ≡ cond (false || (b && met)) 1 0
once_other true met same = let no : true ≡ false = same refl in cc
once_other false met same = refl

once_now : (l : Line) (b was : Bool) → (b ≡ true → false ≡ was) → cond was 1 0 + length (cond b (l ∷ []) []) ≡ cond (was || (b && true)) 1 0
once_now l true true same = let no : false ≡ true = same refl in cc
once_now l true false same = refl
once_now l false true same = refl
once_now l false false same = refl

once_never : (b was : Bool) → cond was 1 0 + 0 ≡ cond (was || (b && false)) 1 0
once_never true true = refl
once_never true false = refl
once_never false true = refl
once_never false false = refl

once_case : (i e s : ℕ) (was_e was_i met new : Bool) → ((i == e) ≡ true → was_e ≡ was_i) → cond was_i 1 0 + length (filter (reports i) (speaks was_e met new e s)) ≡ cond (was_i || ((i == e) && met)) 1 0
once_case i e s true true met new same = refl
once_case i e s true false met new same = once_other (i == e) met same
once_case i e s false was_i true true same = once_now (AtOnce e s) (i == e) was_i same
once_case i e s false was_i true false same = once_now (Completed e s) (i == e) was_i same
once_case i e s false was_i false true same = once_never (i == e) was_i
once_case i e s false was_i false false same = once_never (i == e) was_i

abbrev times : ℕ → List Line → ℕ
times i lines = length (filter (reports i) lines)

said_once : (c : PermutationRun) (i : ℕ) (ts : List Try) → times i (said c ts) ≡ cond (was_reported c ts i) 1 0
said_once c i [] = refl
said_once c i (t ∷ earlier) =
    let rest = said_once c i earlier in
    let parts = ap length (filter-append (reports i) (said c earlier) (says c earlier t)) ∙ length-append (filter (reports i) (said c earlier)) (filter (reports i) (says c earlier t)) in
    parts
    ∙ ap (λ n. n + times i (says c earlier t)) rest
    ∙ once_case i t.entry t.moment.seen (was_reported c earlier t.entry) (was_reported c earlier i) (is_met c earlier t) (is_untried earlier t.entry)
    (λ is. ap (was_reported c earlier) (sym (eqb-true i t.entry is)))

at_most_one : (b : Bool) → cond b 1 0 ≤ 1
at_most_one true = omega arith
at_most_one false = omega arith

-- no instance is reported twice
pub reported_once : (c : PermutationRun) (count i : ℕ) → count_by (reports i) (walked c count).lines ≤ 1
reported_once c count i =
    let counted = sym (length-filter (reports i) (walked c count).lines) ∙ ap (times i) (lines_are_said c count) ∙ said_once c i (tries c count) in
    let most = at_most_one (was_reported c (tries c count) i) in
    omega arith

or_none : (a b : Bool) → (a || b) ≡ false → (a ≡ false) × (b ≡ false)
or_none true b h = cc
or_none false b h = (refl, h)

and_none : (a b : Bool) → a ≡ true → (a && b) ≡ false → b ≡ false
and_none true b is h = h
and_none false b is h = cc

unmet : (c : PermutationRun) (i : ℕ) (behind : List Try) (u : Try) (ahead : List Try) → was_reported c (behind ++ u ∷ ahead) i ≡ false → i ≡ u.entry → is_met c ahead u ≡ false
unmet c i [] u ahead h of = and_none (i == u.entry) (is_met c ahead u) (eq-eqb i u.entry of) (or_none _ _ h).1
unmet c i (b ∷ behind) u ahead h of = unmet c i behind u ahead (or_none _ _ h).0 of

none_case : (was b met : Bool) → was ≡ false → (b ≡ true → met ≡ false) → (was || (b && met)) ≡ false
none_case was true met h never = rw (h, never refl) refl
none_case was false met h never = rw h refl

never_met : (c : PermutationRun) (i : ℕ) (ts : List Try) → ((behind : List Try) (u : Try) (ahead : List Try) → ts ≡ behind ++ u ∷ ahead → i ≡ u.entry → is_met c ahead u ≡ false) → was_reported c ts i ≡ false
never_met c i [] h = refl
never_met c i (t ∷ earlier) h =
    none_case (was_reported c earlier i) (i == t.entry) (is_met c earlier t)
    (never_met c i earlier (λ behind u ahead is of. h (t ∷ behind) u ahead (ap (λ (w : List Try). t ∷ w) is) of))
    (λ is. h [] t earlier refl (eqb-true i t.entry is))

contains_none : (line : Line) → Contains {X = Line} [] line → ⊥
contains_none line h = let none : h.0 < 0 = h.1 in omega arith

contains_one : (x line : Line) → Contains (x ∷ []) line → x ≡ line
contains_one x line (zero, few, is) = is
contains_one x line (suc k, few, is) = absurd (omega arith)

spoken : (i e s : ℕ) (line : Line) (was met new : Bool) → Contains (speaks was met new e s) line → reports i line ≡ true → (was ≡ false) × (met ≡ true) × (i ≡ e) × (line ≡ (if new then AtOnce i s else Completed i s))
spoken i e s line true met new has is = absurd (contains_none line has)
spoken i e s line false true true has is =
    let same : AtOnce e s ≡ line = contains_one (AtOnce e s) line has in
    let at : i ≡ e = eqb-true i e (ap (reports i) same ∙ is) in
    (refl, refl, at, sym same ∙ ap (λ k. AtOnce k s) (sym at))
spoken i e s line false true false has is =
    let same : Completed e s ≡ line = contains_one (Completed e s) line has in
    let at : i ≡ e = eqb-true i e (ap (reports i) same ∙ is) in
    (refl, refl, at, sym same ∙ ap (λ k. Completed k s) (sym at))
spoken i e s line false false true has is =
    let same : Waiting e ≡ line = contains_one (Waiting e) line has in
    let no : false ≡ true = ap (reports i) same ∙ is in
    cc
spoken i e s line false false false has is = absurd (contains_none line has)

found_case : (c : PermutationRun) (i : ℕ) (line : Line) (t : Try) (earlier : List Try) → reports i line ≡ true → (Contains (said c earlier) line → IsReportPoint c earlier i line) → Contains (said c earlier) line ⊎ Contains (says c earlier t) line → IsReportPoint c (t ∷ earlier) i line
found_case c i line t earlier is rest (inl has) =
    let p = rest has in
    record { later = t ∷ p.later; t = p.t; earlier = p.earlier; stands = ap (λ (w : List Try). t ∷ w) p.stands; of = p.of; met = p.met; first = p.first; is = p.is }
found_case c i line t earlier is rest (inr has) =
    let p = spoken i t.entry t.moment.seen line (was_reported c earlier t.entry) (is_met c earlier t) (is_untried earlier t.entry) has is in
    let at : i ≡ t.entry = p.2 in
    let was : was_reported c earlier i ≡ false = ap (was_reported c earlier) at ∙ p.0 in
    record {
      later = [];
      t = t;
      earlier = earlier;
      stands = refl;
      of = at;
      met = p.1;
      first = λ behind u ahead splits of. unmet c i behind u ahead (ap (λ (w : List Try). was_reported c w i) (sym splits) ∙ was) of;
      is = p.3 ∙ ap (λ k. if is_untried earlier k then AtOnce i t.moment.seen else Completed i t.moment.seen) (sym at);
    }

found : (c : PermutationRun) (i : ℕ) (line : Line) (ts : List Try) → reports i line ≡ true → Contains (said c ts) line → IsReportPoint c ts i line
found c i line [] is has = absurd (contains_none line has)
found c i line (t ∷ earlier) is has =
    found_case c i line t earlier is (found c i line earlier is) (Contains-append_cases (said c earlier) (says c earlier t) line has)

kept : (c : PermutationRun) (line : Line) (later ts : List Try) → Contains (said c ts) line → Contains (said c (later ++ ts)) line
kept c line [] ts has = has
kept c line (t ∷ later) ts has = Contains-append_left (said c (later ++ ts)) (says c (later ++ ts) t) line (kept c line later ts has)

point_is_said : (c : PermutationRun) (i : ℕ) (line : Line) (ts : List Try) → IsReportPoint c ts i line → Contains (said c ts) line × (reports i line ≡ true)
point_is_said c i line ts p =
    let seen = p.t.moment.seen in
    let was : was_reported c p.earlier p.t.entry ≡ false = ap (was_reported c p.earlier) (sym p.of) ∙ never_met c i p.earlier p.first in
    let is : (if is_untried p.earlier p.t.entry then AtOnce p.t.entry seen else Completed p.t.entry seen) ≡ line =
    ap (λ k. if is_untried p.earlier k then AtOnce k seen else Completed k seen) (sym p.of) ∙ sym p.is in
    let says_so : says c p.earlier p.t ≡ line ∷ [] = rw (was, p.met) (ap (λ (l : Line). l ∷ []) is) in
    let here : Contains (says c p.earlier p.t) line = rw says_so (0, omega arith, refl) in
    let there : Contains (said c (p.later ++ p.t ∷ p.earlier)) line = kept c line p.later (p.t ∷ p.earlier) (Contains-append_right (said c p.earlier) (says c p.earlier p.t) line here) in
    let itself : (i == i) ≡ true = eq-eqb i i refl in
    let reporting : reports i (if is_untried p.earlier i then AtOnce i seen else Completed i seen) ≡ true =
    elim (is_untried p.earlier i) as (λ b. reports i (if b then AtOnce i seen else Completed i seen) ≡ true) [ true ↦ itself | false ↦ itself ] in
    (subst (λ (w : List Try). Contains (said c w) line) (sym p.stands) there, ap (reports i) p.is ∙ reporting)

-- a line of the report reports an instance exactly where it is that of the instance's report point
pub points_are_least : (c : PermutationRun) (count i : ℕ) (line : Line) → (Contains (walked c count).lines line × (reports i line ≡ true)) ↔ IsReportPoint c (tries c count) i line
points_are_least c count i line = (
  λ h. found c i line (tries c count) h.1 (subst (λ (w : List Line). Contains w line) (lines_are_said c count) h.0),
  λ p. let h = point_is_said c i line (tries c count) p in (subst (λ (w : List Line). Contains w line) (sym (lines_are_said c count)) h.0, h.1),
)
