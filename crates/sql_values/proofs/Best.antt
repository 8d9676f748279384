-- The first value that none beats, one value further.
use Rattle.std.proofs.Common.{◌≡◌, Bool, true, false, not, ◌||◌, List, [], ◌∷◌, ◌++◌, Some, None, refl, sym, ◌∙◌, cond, if◌then◌else◌}
use Rattle.std.specs.Prelude.{Option, find}
use Rattle.std.specs.List.{list_any}
use Rattle.std.specs.Cmp.{IsStrictWeakOrder}
use Rattle.std.proofs.lemmas.Bool.{false≢true}
use Rattle.std.proofs.lemmas.List.Folds.{find-append, list_any-append}

module _ {X : Type 0} (lt : X → X → Bool) (o : IsStrictWeakOrder lt) where
  -- none of the list beats v
  abbrev unbeaten : List X → X → Bool
  unbeaten xs v = not (list_any (λ w. lt w v) xs)

  abbrev pub best : List X → Option X
  best xs = find (unbeaten xs) xs

  not_itself_by : (x : X) (b : Bool) → lt x x ≡ b → b ≡ false
  not_itself_by x true h = sym h ∙ o.one_way x x h
  not_itself_by x false h = refl

  not_itself : (x : X) → lt x x ≡ false
  not_itself x = not_itself_by x (lt x x) refl

  pub best_of_one : (x : X) → best (x ∷ []) ≡ Some x
  best_of_one x = rw (not_itself x) refl

  or_false : (a b : Bool) → (a || b) ≡ false → (a ≡ false) × (b ≡ false)
  or_false true b h = absurd (false≢true (sym h))
  or_false false b h = (refl, h)

  not_true : (b : Bool) → not b ≡ true → b ≡ false
  not_true true h = absurd (false≢true h)
  not_true false h = refl

  -- what is found passes
  found_passes : (p : X → Bool) (ys : List X) (b : X) → find p ys ≡ Some b → p b ≡ true
  found_passes p [] b h = absurd (cc)
  found_passes p (y ∷ ys) b h = passes_by (found_passes p ys b) (p y) refl h where
    passes_by : (find p ys ≡ Some b → p b ≡ true) → (t : Bool) → p y ≡ t → cond t (Some y) (find p ys) ≡ Some b → p b ≡ true
    passes_by later true e f = let same : y ≡ b = cc in rw (← same) e
    passes_by later false e f = later f

  -- a stricter test that the found value still passes finds it too
  found_still : (p q : X → Bool) (ys : List X) (b : X) → ((v : X) → p v ≡ false → q v ≡ false) → find p ys ≡ Some b → q b ≡ true → find q ys ≡ Some b
  found_still p q [] b weaker h k = h
  found_still p q (y ∷ ys) b weaker h k = still_by (λ f. found_still p q ys b weaker f k) (p y) refl h where
    still_by : (find p ys ≡ Some b → find q ys ≡ Some b) → (t : Bool) → p y ≡ t → cond t (Some y) (find p ys) ≡ Some b → cond (q y) (Some y) (find q ys) ≡ Some b
    still_by later true e f = let same : y ≡ b = cc in let good : q y ≡ true = rw same k in rw good f
    still_by later false e f = rw (weaker y e) (later f)

  -- where y beats b, which none of the list beats, it beats each of them
  beats_all : (b y v : X) → lt v b ≡ false → lt y b ≡ true → (t : Bool) → lt y v ≡ t → t ≡ true
  beats_all b y v h k true e = refl
  beats_all b y v h k false e = absurd (false≢true (sym (o.chain y v b e h) ∙ k))

  none_left : (q : X → Bool) (b y : X) → lt y b ≡ true → ((v : X) → lt y v ≡ true → q v ≡ false) → (ys : List X) → list_any (λ w. lt w b) ys ≡ false → find q ys ≡ None
  none_left q b y k beaten [] h = refl
  none_left q b y k beaten (v ∷ ys) h =
      let both = or_false (lt v b) (list_any (λ w. lt w b) ys) h in
      rw (beaten v (beats_all b y v both.0 k (lt y v) refl)) (none_left q b y k beaten ys both.1)

  -- none of the list beats y, where none beats b and y does
  none_beats : (b y : X) → lt y b ≡ true → (ys : List X) → list_any (λ w. lt w b) ys ≡ false → list_any (λ w. lt w y) ys ≡ false
  none_beats b y k [] h = refl
  none_beats b y k (v ∷ ys) h =
      let both = or_false (lt v b) (list_any (λ w. lt w b) ys) h in
      rw (o.chain v b y both.0 (o.one_way y b k)) (none_beats b y k ys both.1)

  any_with : (xs : List X) (y v : X) → list_any (λ w. lt w v) (xs ++ y ∷ []) ≡ (list_any (λ w. lt w v) xs || (lt y v || false))
  any_with xs y v = list_any-append (λ w. lt w v) xs (y ∷ [])

  or_true : (a : Bool) → (a || true) ≡ true
  or_true true = refl
  or_true false = refl

  more_by : (xs : List X) (b y : X) → best xs ≡ Some b → (t : Bool) → lt y b ≡ t → best (xs ++ y ∷ []) ≡ Some (if t then y else b)
  more_by xs b y h true k =
      let none : list_any (λ w. lt w b) xs ≡ false = not_true _ (found_passes (unbeaten xs) xs b h) in
      let left : find (unbeaten (xs ++ y ∷ [])) xs ≡ None = none_left (unbeaten (xs ++ y ∷ [])) b y k (λ v e. rw (any_with xs y v, e, or_true (list_any (λ w. lt w v) xs)) refl) xs none in
      let here : unbeaten (xs ++ y ∷ []) y ≡ true = rw (any_with xs y y, none_beats b y k xs none, not_itself y) refl in
      find-append (unbeaten (xs ++ y ∷ [])) xs (y ∷ []) ∙ rw (left, here) refl
  more_by xs b y h false k =
      let none : list_any (λ w. lt w b) xs ≡ false = not_true _ (found_passes (unbeaten xs) xs b h) in
      let still : unbeaten (xs ++ y ∷ []) b ≡ true = rw (any_with xs y b, none, k) refl in
      let stays : find (unbeaten (xs ++ y ∷ [])) xs ≡ Some b = found_still (unbeaten xs) (unbeaten (xs ++ y ∷ [])) xs b (λ v e. rw (any_with xs y v) (weaken (list_any (λ w. lt w v) xs) (lt y v) e)) h still in
      find-append (unbeaten (xs ++ y ∷ [])) xs (y ∷ []) ∙ rw stays refl where
        weaken : (a b : Bool) → not a ≡ false → not (a || (b || false)) ≡ false
        weaken true b e = refl
        weaken false b e = absurd (false≢true (sym e))

  pub best_more : (xs : List X) (b y : X) → best xs ≡ Some b → best (xs ++ y ∷ []) ≡ Some (if lt y b then y else b)
  best_more xs b y h = more_by xs b y h (lt y b) refl
