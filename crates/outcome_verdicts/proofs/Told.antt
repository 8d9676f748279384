-- Orders that were told so far, and the list that stands for those of them that are serial.
use Rattle.std.proofs.Common.{◌≡◌, ◌∙◌, ◌⊎◌, ℕ, List, [], ◌∷◌, ◌++◌, refl, sym, ap, append_assoc, subst, ⊎_elim, arith}
use Rattle.std.specs.Prelude.{Contains}
use Rattle.std.proofs.lemmas.List.{append-nil}
use Rattle.std.proofs.lemmas.List.Elements.{Contains-append_left, Contains-push, Contains-push_cases}
use Rattle.permutation_lists.specs.Interleavings.{interleavings, IsInterleaving}
use Rattle.permutation_lists.proofs.Members.{interleavings_keep_counts}
use Rattle.outcome_counts.specs.declared.outcome.RunOutcome.{RunOutcome}
use Rattle.outcome_counts.specs.Outcomes.{SameOutcome}
use Rattle.outcome_counts.proofs.Sameness.{same_by}
use Rattle.outcome_verdicts.specs.declared.serial_orders.SerialOrder.{SerialOrder}
use Rattle.outcome_verdicts.specs.Verdicts.{Orders, StandFor}
use Rattle.outcome_verdicts.specs.Code.Adding.{IsAdded, IsTold, known, new}

-- one of these orders, that is so
abbrev pub Told : Orders → List (List ℕ) → Orders
Told Has done = λ order o. Contains done order × Has order o

none_there : {A : Type 0} (x : A) → Contains [] x → ⊥
none_there x among = omega (arith, among.1)

none_told : (Has : Orders) → StandFor (Told Has []) []
none_told Has = record {
  each = λ s among. absurd (none_there s among);
  all = λ order o told. absurd (none_there order told.0);
}

more_done : (Has : Orders) (done : List (List ℕ)) (order other : List ℕ) (o : RunOutcome) → Told Has done other o → Told Has (done ++ order ∷ []) other o
more_done Has done order other o told = (Contains-append_left done (order ∷ []) other told.0, told.1)

-- one more order was told, which has this outcome
one_told : (Has : Orders) (done : List (List ℕ)) (before after : List SerialOrder) (order : List ℕ) (o : RunOutcome) → StandFor (Told Has done) before → Has order o
    → ((a b : RunOutcome) → Has order a → Has order b → SameOutcome a b) → IsAdded before after order o → StandFor (Told Has (done ++ order ∷ [])) after
one_told Has done before after order o stand is one (known other found same) = record {
  each = λ s among. more_done Has done order s.sessions.items s.outcome (stand.each s (subst (λ (ss : List SerialOrder). Contains ss s) same among));
  all = λ next w told.
      ⊎_elim
      (λ (h : Contains done next). let old = stand.all next w (h, told.1) in (old.0, subst (λ (ss : List SerialOrder). Contains ss old.0) (sym same) old.1, old.2))
      (λ (e : order ≡ next). (
        found.0,
        subst (λ (ss : List SerialOrder). Contains ss found.0) (sym same) found.1,
        same_by found.0.outcome o w found.3 (one o w is (subst (λ (os : List ℕ). Has os w) (sym e) told.1)),
      ))
      (Contains-push_cases done order next told.0);
}
one_told Has done before after order o stand is one (new s sessions own none same) = record {
  each = λ t among.
      ⊎_elim
      (λ (h : Contains before t). more_done Has done order t.sessions.items t.outcome (stand.each t h))
      (λ (e : s ≡ t).
      subst (λ (x : SerialOrder). Told Has (done ++ order ∷ []) x.sessions.items x.outcome) e (
        subst (λ (os : List ℕ). Contains (done ++ order ∷ []) os) (sym sessions) (Contains-push done order),
        subst (λ (os : List ℕ). Has os s.outcome) (sym sessions) (subst (Has order) (sym own) is),
      ))
      (Contains-push_cases before s t (subst (λ (ss : List SerialOrder). Contains ss t) same among));
  all = λ next w told.
      ⊎_elim
      (λ (h : Contains done next).
      let old = stand.all next w (h, told.1) in
      (old.0, subst (λ (ss : List SerialOrder). Contains ss old.0) (sym same) (Contains-append_left before (s ∷ []) old.0 old.1), old.2))
      (λ (e : order ≡ next). (
        s,
        subst (λ (ss : List SerialOrder). Contains ss s) (sym same) (Contains-push before s),
        subst (λ (x : RunOutcome). SameOutcome x w) (sym own) (one o w is (subst (λ (os : List ℕ). Has os w) (sym e) told.1)),
      ))
      (Contains-push_cases done order next told.0);
}

-- or has none
none_has : (Has : Orders) (done : List (List ℕ)) (orders : List SerialOrder) (order : List ℕ) → StandFor (Told Has done) orders → ((o : RunOutcome) → Has order o → ⊥)
    → StandFor (Told Has (done ++ order ∷ [])) orders
none_has Has done orders order stand none = record {
  each = λ s among. more_done Has done order s.sessions.items s.outcome (stand.each s among);
  all = λ next w told.
      ⊎_elim (λ (h : Contains done next). stand.all next w (h, told.1)) (λ (e : order ≡ next). absurd (none w (subst (λ (os : List ℕ). Has os w) (sym e) told.1)))
      (Contains-push_cases done order next told.0);
}

-- all were told
all_told : (Has : Orders) (counts : List ℕ) (done : List (List ℕ)) (orders : List SerialOrder) → interleavings counts ≡ done → StandFor (Told Has done) orders
    → StandFor (λ order o. IsInterleaving counts order × Has order o) orders
all_told Has counts done orders is stand = record {
  each = λ s among.
      let told = stand.each s among in
      ((interleavings_keep_counts counts s.sessions.items).0 (subst (λ (ls : List (List ℕ)). Contains ls s.sessions.items) (sym is) told.0), told.1);
  all = λ order o told. stand.all order o (subst (λ (ls : List (List ℕ)). Contains ls order) is ((interleavings_keep_counts counts order).1 told.0), told.1);
}

-- of all orders so many were told, and these are left
pub record OrdersSoFar (Has : Orders) (all left : List (List ℕ)) (orders : List SerialOrder) : Type 0 where
  pub done : List (List ℕ)
  pub split : all ≡ done ++ left
  pub stand : StandFor (Told Has done) orders

pub at_first : (Has : Orders) (all left : List (List ℕ)) (orders : List SerialOrder) → left ≡ all → orders ≡ [] → OrdersSoFar Has all left orders
at_first Has all left orders is none = record { done = []; split = sym is; stand = subst (StandFor (Told Has [])) (sym none) (none_told Has) }

pub next_order : (Has : Orders) (all left more : List (List ℕ)) (before after : List SerialOrder) (order : List ℕ) → ((a b : RunOutcome) → Has order a → Has order b → SameOutcome a b)
    → OrdersSoFar Has all left before → left ≡ order ∷ more → IsTold Has before after order → OrdersSoFar Has all more after
next_order Has all left more before after order one so is told = record {
  done = so.done ++ order ∷ [];
  split = so.split ∙ ap (λ (x : List (List ℕ)). so.done ++ x) is ∙ sym (append_assoc so.done (order ∷ []) more);
  stand =
      ⊎_elim
      (λ (h : (o : RunOutcome) × Has order o × IsAdded before after order o). one_told Has so.done before after order h.0 so.stand h.1 one h.2)
      (λ (h : ((o : RunOutcome) → Has order o → ⊥) × (after ≡ before)). subst (StandFor (Told Has (so.done ++ order ∷ []))) (sym h.1) (none_has Has so.done before order so.stand h.0))
      told;
}

pub at_last : (Has : Orders) (counts wanted : List ℕ) (left : List (List ℕ)) (orders : List SerialOrder) → OrdersSoFar Has (interleavings counts) left orders → left ≡ [] → counts ≡ wanted
    → StandFor (λ order o. IsInterleaving wanted order × Has order o) orders
at_last Has counts wanted left orders so none is =
    subst (λ (cs : List ℕ). StandFor (λ order o. IsInterleaving cs order × Has order o) orders) is
    (all_told Has counts so.done orders (so.split ∙ ap (λ (x : List (List ℕ)). so.done ++ x) none ∙ append-nil so.done) so.stand)
