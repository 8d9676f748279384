-- A permutation is invalid exactly where the tries leave a step active that should have been reported.
use Rattle.std.proofs.Common.{◌≡◌, ◌==◌, ℕ, zero, suc, ◌+◌, ◌<◌, ◌≤◌, ◌⊎◌, ◌↔◌, List, [], length, refl, ap, sym, ◌∙◌, subst, arith, true, false, Bool, not, nat_lt, if◌then◌else◌, inl, inr}
use Rattle.std.proofs.lemmas.Bool.{cases_lt, le-ltb, ltb-true, ltb-false}
use Rattle.report_lines.specs.declared.history.Line.{Line}
use Rattle.report_lines.specs.declared.history.RunState.TheVariants.{Due, Whole, Invalid}
use Rattle.report_lines.specs.History.{PermutationRun}
use Rattle.report_lines.specs.Report.{moment_of, active}
use Rattle.report_lines.specs.Code.Walk.{all_polls, has_unreported, before_launch, after_launch, walked_from, walked}
use Rattle.report_lines.specs.Tries.{Try, still_active, all_passes, has_active, tries_before, tries_after}
use Rattle.report_lines.specs.Invalid.{launched_tries, tries_up_to, tries_to_the_end, IsStuck, IsInvalid}
use Rattle.report_lines.proofs.Tried.{Follows, follows_polled, follows_busy, follows_way, follows_launch, follows_active}

-- so many entries are launched after these tries, and none before was stuck
record IsLaunched (c : PermutationRun) (count e : ℕ) (ts : List Try) : Type 0 where
  tries_are : ts ≡ launched_tries c e
  reached : e ≤ count
  free : (d : ℕ) → d < e → has_active c (tries_up_to c d) d ≡ false

not_both : {A : Type 0} (b : Bool) → b ≡ true → b ≡ false → A
not_both b holds fails = cc

no_stuck_below : (c : PermutationRun) (count e : ℕ) (ts : List Try) → IsLaunched c count e ts → length c.entries ≤ e → IsStuck c count → ⊥
no_stuck_below c count e ts l few s =
    let one = s.one in
    not_both (has_active c (tries_up_to c s.entry) s.entry) s.active (l.free s.entry (omega arith))

-- ---- at the end

end_case : (c : PermutationRun) (count e : ℕ) (ts : List Try) (b : Bool) → IsLaunched c count e ts → e ≡ length c.entries → b ≡ (length (still_active c (tries_to_the_end c) (length c.entries)) == 0)
    → (if b then Whole else Invalid) ≡ Invalid ↔ IsInvalid c count
end_case c count e ts true l all is = (λ (h : Whole ≡ Invalid). cc, λ h. elim h [ inl s ↦ absurd (no_stuck_below c count e ts l (omega arith) s) | inr a ↦ not_both (length (still_active c (tries_to_the_end c) (length c.entries)) == 0) (sym is) a.active ])
end_case c count e ts false l all is =
    let reached = l.reached in
    (λ _. inr (record { reached = omega arith; active = sym is }), λ _. refl)

-- ---- before an entry's Launch

later_free : (c : PermutationRun) (e : ℕ) → ((d : ℕ) → d < e → has_active c (tries_up_to c d) d ≡ false) → has_active c (tries_up_to c e) e ≡ false
    → (d : ℕ) → d < e + 1 → (d < e) ⊎ (e ≤ d) → has_active c (tries_up_to c d) d ≡ false
later_free c e below here d less (inl lt) = below d lt
later_free c e below here d less (inr le) = let same : e ≡ d = omega arith in subst (λ (n : ℕ). has_active c (tries_up_to c n) n ≡ false) same here

next_tries : (c : PermutationRun) (e : ℕ) (ts : List Try) → ts ≡ launched_tries c e → tries_after c (tries_before c ts e) e ≡ launched_tries c (e + 1)
next_tries c e ts h =
    let next : suc e ≡ e + 1 = omega arith in
    ap (λ (w : List Try). tries_after c (tries_before c w e) e) h ∙ ap (launched_tries c) next

next_launched : (c : PermutationRun) (count e : ℕ) (ts : List Try) → IsLaunched c count e ts → e < count → has_active c (tries_before c ts e) e ≡ false → IsLaunched c count (e + 1) (tries_after c (tries_before c ts e) e)
next_launched c count e ts l lt free = record {
  tries_are = next_tries c e ts l.tries_are;
  reached = omega arith;
  free = λ d less. later_free c e l.free (subst (λ (w : List Try). has_active c (tries_before c w e) e ≡ false) l.tries_are free) d less (cases_lt d e);
}

not_there : (c : PermutationRun) (count e : ℕ) (ts : List Try) → IsLaunched c count e ts → count ≤ e → e < length c.entries → has_active c (tries_before c ts e) e ≡ false → IsInvalid c count → ⊥
not_there c count e ts l few less free (inl s) =
    let reached = s.reached in
    not_both (has_active c (tries_up_to c s.entry) s.entry) s.active
    (later_free c e l.free (subst (λ (w : List Try). has_active c (tries_before c w e) e ≡ false) l.tries_are free) s.entry (omega arith) (cases_lt s.entry e))
not_there c count e ts l few less free (inr a) = let reached = a.reached in absurd (omega arith)

entry_case : (c : PermutationRun) (count e rest : ℕ) (ts : List Try) (way more : List Line) (busy present : Bool) → IsLaunched c count e ts → e < length c.entries
    → busy ≡ has_active c (tries_before c ts e) e → (present ≡ true → e < count) → (present ≡ false → count ≤ e)
    → (e < count → busy ≡ false → (walked_from c (e + 1) rest count more).state ≡ Invalid ↔ IsInvalid c count)
    → (if busy then record { lines = way; state = Invalid } else (if present then walked_from c (e + 1) rest count more else record { lines = way; state = Due e })).state ≡ Invalid ↔ IsInvalid c count
entry_case c count e rest ts way more true present l less is before_it behind_it next =
    (λ _. inl (record { entry = e; one = less; reached = l.reached; active = subst (λ (w : List Try). has_active c (tries_before c w e) e ≡ true) l.tries_are (sym is) }), λ _. refl)
entry_case c count e rest ts way more false true l less is before_it behind_it next = next (before_it refl) refl
entry_case c count e rest ts way more false false l less is before_it behind_it next =
    (λ (h : Due e ≡ Invalid). cc, λ h. absurd (not_there c count e ts l (behind_it refl) less (sym is) h))

invalid_from : (c : PermutationRun) (count rest e : ℕ) (lines : List Line) (ts : List Try) → Follows c e lines ts → IsLaunched c count e ts → e + rest ≡ length c.entries
    → (walked_from c e rest count lines).state ≡ Invalid ↔ IsInvalid c count
invalid_from c count zero e lines ts f l all =
    let m = moment_of c e e in
    let at_end : e ≡ length c.entries = omega arith in
    let polled = follows_polled c m e (m.joined + 1) lines ts (omega arith) (omega arith) f in
    let tries_are : all_passes c m ts ≡ tries_to_the_end c = ap (all_passes c m) l.tries_are ∙ ap (λ (n : ℕ). all_passes c (moment_of c n n) (launched_tries c n)) at_end in
    let left : active (all_polls c m lines) e ≡ still_active c (tries_to_the_end c) (length c.entries) =
    follows_active c e (all_polls c m lines) (all_passes c m ts) e polled ∙ ap (λ (w : List Try). still_active c w e) tries_are ∙ ap (still_active c (tries_to_the_end c)) at_end in
    end_case c count e ts (length (active (all_polls c m lines) e) == 0) l at_end (ap (λ (xs : List ℕ). length xs == 0) left)
invalid_from c count (suc rest) e lines ts f l all =
    let way = follows_way c e lines ts f in
    let busy = follows_busy c e (before_launch c lines e) (tries_before c ts e) way in
    entry_case c count e rest ts (before_launch c lines e) (after_launch c (before_launch c lines e) e) (has_unreported c (before_launch c lines e) e) (nat_lt e count) l (omega arith) busy (ltb-true e count) (ltb-false e count)
    (λ lt free. invalid_from c count rest (e + 1) (after_launch c (before_launch c lines e) e) (tries_after c (tries_before c ts e) e)
    (follows_launch c e (before_launch c lines e) (tries_before c ts e) way) (next_launched c count e ts l lt (sym busy ∙ free)) (omega arith))

pub invalid_is : (c : PermutationRun) (count : ℕ) → (walked c count).state ≡ Invalid ↔ IsInvalid c count
invalid_is c count =
    invalid_from c count (length c.entries) 0 [] [] (record { said_is = refl; tried = λ i. ap not (sym (le-ltb i 0 (omega arith))) })
    (record { tries_are = refl; reached = omega arith; free = λ d h. absurd (omega arith) }) (omega arith)
