-- Each permutation of a spec is of steps that are there.
use Rattle.std.proofs.Common.{◌≡◌, refl, sym, ◌∙◌, ap, subst, Bool, true, false, cond, ◌==◌, ℕ, zero, suc, ◌+◌, ◌-◌, ◌<◌, List, [], ◌∷◌, ◌++◌, length, length-append, map, take, get_or, append_assoc, arith, if◌then◌else◌}
use Rattle.std.specs.Prelude.{All, Contains, count_by, slice_index}
use Rattle.std.specs.List.{AllByRecursion, enumerate_from}
use Rattle.std.proofs.lemmas.Bool.{eq-eqb}
use Rattle.std.proofs.lemmas.List.Elements.{All-map, All-weaker, All-from_recursion, All-contains, All-contains_itself}
use Rattle.std.proofs.lemmas.List.Sums.{sum_by-cons, sum_by-append}
use Rattle.spec_parser.specs.Trees.{EntryTree, SessionTree, SpecTree}
use Rattle.spec_parser.specs.Stands.{Stands, StepStands, EntryStands, PermStands}
use Rattle.permutation_lists.specs.Interleavings.{interleavings, IsInterleaving}
use Rattle.permutation_lists.specs.Permutations.{entries_of, permutations_of}
use Rattle.spec_files.specs.Complete.{HasItsSteps}

-- a number that is less than how many steps the session has is a step's
record AtSession (sessions : List SessionTree) (y j : ℕ) : Type 0 where
  pub within : y < length sessions
  pub step : (s : SessionTree) → j < length (get_or sessions y s).steps

at_session : (sessions : List SessionTree) (y j : ℕ) → j < get_or (map (λ (s : SessionTree). length s.steps) sessions) y 0 → AtSession sessions y j
at_session [] y j less = absurd (omega (arith, less))
at_session (s ∷ ss) zero j less = record { within = omega arith; step = λ t. less }
at_session (s ∷ ss) (suc y) j less = let rest = at_session ss y j less in record { within = omega (arith, rest.within); step = rest.step }

step_stands : (sessions : List SessionTree) (x j : ℕ) → j < slice_index (0 ∷ map (λ (s : SessionTree). length s.steps) sessions) x → StepStands sessions x j
step_stands sessions zero j less = absurd (omega (arith, less))
step_stands sessions (suc y) j less =
    let at = at_session sessions y j less in
    let place : y ≡ suc y - 1 = omega arith in
    record {
      from_one = omega arith;
      session = omega (arith, at.within);
      step = λ s. subst (λ k. j < length (get_or sessions k s).steps) place (at.step s);
    }

-- ---- interleavings

front_of : {A : Type 0} (front rest : List A) → take (length front) (front ++ rest) ≡ front
front_of [] rest = refl
front_of (x ∷ xs) rest = ap (λ w. x ∷ w) (front_of xs rest)

-- the turn of a session behind these turns is of a step of its own
turn_counts : (front rest : List ℕ) (x : ℕ) → count_by (λ y. y == x) front < count_by (λ y. y == x) (front ++ x ∷ rest)
turn_counts front rest x =
    let one : ◌≡◌ {A = ℕ} (cond (x == x) 1 0) 1 = ap (λ (b : Bool). cond b 1 0) (eq-eqb x x refl) in
    let all = sum_by-append (λ y. cond (y == x) 1 0) front (x ∷ rest) in
    let behind = sum_by-cons (λ y. cond (y == x) 1 0) x rest in
    omega (arith, one, all, behind)

each_from : (sessions : List SessionTree) (turns : List ℕ) → IsInterleaving (map (λ (s : SessionTree). length s.steps) sessions) turns → (front rest : List ℕ) → turns ≡ front ++ rest
    → AllByRecursion (λ (e : EntryTree). StepStands sessions e.session e.step)
    (map (λ (p : ℕ × ℕ). record { session = p.1; step = count_by (λ x. x == p.1) (take p.0 turns); markers = [] }) (enumerate_from (length front) rest))
each_from sessions turns keeps front [] is = tt
each_from sessions turns keeps front (x ∷ rest) is =
    let before : take (length front) turns ≡ front = ap (take (length front)) is ∙ front_of front (x ∷ rest) in
    let less : count_by (λ y. y == x) front < slice_index (0 ∷ map (λ (s : SessionTree). length s.steps) sessions) x =
    subst (λ n. count_by (λ y. y == x) front < n) (ap (count_by (λ y. y == x)) (sym is) ∙ keeps x) (turn_counts front rest x) in
    let one = step_stands sessions x (count_by (λ y. y == x) front) less in
    let more : length (front ++ x ∷ []) ≡ length front + 1 = length-append front (x ∷ []) in (
      subst (λ (w : List ℕ). StepStands sessions x (count_by (λ y. y == x) w)) (sym before) one,
      subst (λ n. AllByRecursion (λ (e : EntryTree). StepStands sessions e.session e.step)
          (map (λ (p : ℕ × ℕ). record { session = p.1; step = count_by (λ y. y == p.1) (take p.0 turns); markers = [] }) (enumerate_from n rest))) more
          (each_from sessions turns keeps (front ++ x ∷ []) rest (is ∙ sym (append_assoc front (x ∷ []) rest))),
    )

-- ---- permutations

abbrev pub KeepsCounts : Type 0
KeepsCounts = (counts list : List ℕ) → Contains (interleavings counts) list → IsInterleaving counts list

all_have : KeepsCounts → (spec : SpecTree) → Stands spec → All (HasItsSteps spec) (permutations_of spec)
unfolding permutations_of
all_have keeps spec stands = by (length spec.perms == 0) where
  of_turns : (turns : List ℕ) → Contains (interleavings (map (λ (s : SessionTree). length s.steps) spec.sessions)) turns → HasItsSteps spec (entries_of turns)
  of_turns turns there =
      All-from_recursion (λ (e : EntryTree). StepStands spec.sessions e.session e.step) (entries_of turns)
      (each_from spec.sessions turns (keeps (map (λ (s : SessionTree). length s.steps) spec.sessions) turns there) [] turns refl)

  of_line : (p : List EntryTree) → PermStands spec.sessions p → HasItsSteps spec p
  of_line p h = All-weaker (EntryStands spec.sessions) (λ (e : EntryTree). StepStands spec.sessions e.session e.step) (λ e s. s.step) p h.each

  by : (b : Bool) → All (HasItsSteps spec) (if b then map entries_of (interleavings (map (λ (s : SessionTree). length s.steps) spec.sessions)) else spec.perms)
  by true =
      All-map (HasItsSteps spec) entries_of (interleavings (map (λ (s : SessionTree). length s.steps) spec.sessions))
      (All-weaker (Contains (interleavings (map (λ (s : SessionTree). length s.steps) spec.sessions))) (λ turns. HasItsSteps spec (entries_of turns)) of_turns
      (interleavings (map (λ (s : SessionTree). length s.steps) spec.sessions)) (All-contains_itself (interleavings (map (λ (s : SessionTree). length s.steps) spec.sessions))))
  by false = All-weaker (PermStands spec.sessions) (HasItsSteps spec) of_line spec.perms stands.perms

-- a permutation of a spec is of steps that are there
pub has_its_steps : KeepsCounts → (spec : SpecTree) → Stands spec → (entries : List EntryTree) → Contains (permutations_of spec) entries → HasItsSteps spec entries
has_its_steps keeps spec stands entries there = All-contains (HasItsSteps spec) (permutations_of spec) entries (all_have keeps spec stands) there
