-- One place of the list.
use Rattle.std.proofs.Common.{add-one, ◌≡◌, ℕ, zero, suc, ◌+◌, ◌-◌, ◌<◌, ◌≤◌, List, [], ◌∷◌, ◌++◌, length, map, take, set, sum, refl, ap, sym, ◌∙◌, subst, arith, get_or, get_or-set_same, get_or-set_other, ◌≢◌, ◌⊎◌, inl, inr, fold, length-set}
use Rattle.std.proofs.lemmas.List.{take_more, set-get_or}
use Rattle.permutation_lists.specs.Interleavings.{without, of_length}
use Rattle.permutation_lists.specs.Inner.Prefixes.{each_first, from_session, behind, left_after, IsPath, IsLeast, IsNoneLeft, IsUsedUp, IsAt}
use Rattle.permutation_lists.proofs.First.{with_turn}
use Rattle.permutation_lists.proofs.Behind.{skip, none_from, left_push, fill, pop_none, pop_found}

-- a fold of + may begin at a sum
fold_shift : (a b : ℕ) (cs : List ℕ) → fold ◌+◌ (a + b) cs ≡ a + fold ◌+◌ b cs
fold_shift a b [] = refl
fold_shift a b (c ∷ cs) = let e : a + b + c ≡ a + (b + c) = omega arith in ap (λ (k : ℕ). fold ◌+◌ k cs) e ∙ fold_shift a (b + c) cs

-- the sum of a list with one more in front
pub sum_cons : (c : ℕ) (cs : List ℕ) → sum (c ∷ cs) ≡ c + sum cs
sum_cons c cs = let e : 0 + c ≡ c + 0 = omega arith in ap (λ (k : ℕ). fold ◌+◌ k cs) e ∙ fold_shift c 0 cs

-- taking a turn takes one from the sum
pub sum_less : (c : List ℕ) (i : ℕ) → i < length c → 0 < get_or c i 0 → sum (without c i) + 1 ≡ sum c
sum_less [] i h some = absurd (omega arith)
sum_less (c ∷ cs) zero h some =
    let here : 0 < c = some in
    let e : (c - 1) + sum cs + 1 ≡ c + sum cs = omega arith in
    ap (λ (k : ℕ). k + 1) (sum_cons (c - 1) cs) ∙ e ∙ sym (sum_cons c cs)
sum_less (c ∷ cs) (suc i) h some =
    let less : i < length cs = omega arith in
    let here : 0 < get_or cs i 0 = some in
    let ih : sum (without cs i) + 1 ≡ sum cs = sum_less cs i less here in
    let e : c + sum (without cs i) + 1 ≡ c + sum cs = omega (arith, ih) in
    ap (λ (k : ℕ). k + 1) (sum_cons c (without cs i)) ∙ e ∙ sym (sum_cons c cs)

nothing : List ℕ → List (List ℕ)
nothing xs = [] ∷ []

cons_nil : {A : Type 0} {x : A} {xs : List A} → (let e : List A = [] in x ∷ xs ≡ e) → ⊥
cons_nil h = cc

none_each : (c : List ℕ) (i : ℕ) (cs : List ℕ) → each_first nothing c i cs ≡ [] → sum cs ≡ 0
unfolding nothing
none_each c i [] h = refl
none_each c i (zero ∷ cs) h = omega (arith, none_each c (i + 1) cs h)
none_each c i (suc x ∷ cs) h = absurd (cons_nil (sym (with_turn nothing c i x cs) ∙ h))

-- where no session has a turn left the sum is 0
pub none_sum : (left : List ℕ) → IsNoneLeft left 0 → sum left ≡ 0
none_sum left h = none_each left 0 left (h nothing)

within_or_past : (k n : ℕ) → (k < n) ⊎ (n ≤ k)
within_or_past k zero = inr (omega arith)
within_or_past zero (suc n) = inl (omega arith)
within_or_past (suc k) (suc n) = elim (within_or_past k n) [ inl h ↦ inl (omega arith) | inr h ↦ inr (omega arith) ]

-- sessions that have no turn left begin no list
pub used_up : (rest : List ℕ → List (List ℕ)) (left : List ℕ) (k : ℕ) → IsUsedUp left k → from_session rest left 0 ≡ from_session rest left k
used_up rest left zero none = refl
used_up rest left (suc k) none =
    let before : from_session rest left 0 ≡ from_session rest left k = used_up rest left k (λ i less. none i (omega arith)) in
    before ∙ one (within_or_past k (length left)) ∙ ap (from_session rest left) (add-one k)
  where
    one : (k < length left) ⊎ (length left ≤ k) → from_session rest left k ≡ from_session rest left (k + 1)
    one (inl less) = skip rest left k less (none k (omega arith))
    one (inr over) = none_from rest left k over ∙ sym (none_from rest left (k + 1) (omega arith))

-- the least from a session on is the least of all, where none below has a turn left
pub least_of_all : (left : List ℕ) (k y : ℕ) → IsUsedUp left k → IsLeast left k y → IsLeast left 0 y
least_of_all left k y none least = (omega arith, least.1, least.2, λ rest. used_up rest left k none ∙ least.3 rest)

pub none_of_all : (left : List ℕ) (k : ℕ) → IsUsedUp left k → IsNoneLeft left k → sum left ≡ 0
none_of_all left k none over = none_sum left (λ rest. used_up rest left k none ∙ over rest)

-- none below one, and none from it up to another
pub used_up_to : (left : List ℕ) (k y : ℕ) → IsUsedUp left k → ((i : ℕ) → k ≤ i → i < y → get_or left i 0 ≡ 0) → IsUsedUp left y
used_up_to left k y none between i less = elim (within_or_past i k) [ inl h ↦ none i h | inr h ↦ between i h less ]

-- taking a turn gives none to the sessions below
pub still_used_up : (left : List ℕ) (y : ℕ) → IsUsedUp left y → IsUsedUp (without left y) y
still_used_up left y none i less = let other : i ≢ y = λ same. omega (arith, same, less) in get_or-set_other left y i (get_or left y 0 - 1) 0 other ∙ none i less

-- a path goes on by a session that has a turn left
pub path_push : (c p : List ℕ) (x : ℕ) → IsPath c p → x < length (left_after c p) → 0 < get_or (left_after c p) x 0 → IsPath c (p ++ x ∷ [])
path_push c [] x h less some = (less, some, tt)
path_push c (y ∷ p) x h less some = (h.0, h.1, path_push (without c y) p x h.2 less some)

-- a path without its last session
pub path_pop : (c p : List ℕ) (x : ℕ) → IsPath c (p ++ x ∷ []) → IsPath c p × (x < length (left_after c p)) × (0 < get_or (left_after c p) x 0)
path_pop c [] x h = (tt, h.0, h.1)
path_pop c (y ∷ p) x h = let rest = path_pop (without c y) p x h.2 in ((h.0, h.1, rest.0), rest.1, rest.2)

-- the place behind a prefix and its least session
pub at_push : (c p left : List ℕ) (k y : ℕ) → IsAt c p left → IsLeast left k y → IsAt c (p ++ y ∷ []) (without left y)
at_push c p left k y at least = record {
  path = path_push c p y at.path (subst (λ (d : List ℕ). y < length d) at.rest least.1) (subst (λ (d : List ℕ). 0 < get_or d y 0) at.rest least.2);
  rest = ap (λ (d : List ℕ). without d y) at.rest ∙ sym (left_push c p y);
}

-- writing one session of the least list changes none of the lists to come
pub fill_step : (c p left : List ℕ) (y m n : ℕ) → n ≡ m + 1 → IsAt c p left → IsLeast left 0 y
    → behind c (p ++ y ∷ []) m (of_length m (without left y)) ≡ behind c p n (of_length n left)
fill_step c p left y m n long at least =
    ap (λ (d : List ℕ). behind c (p ++ y ∷ []) m (of_length m d)) (at_push c p left 0 y at least).rest
    ∙ sym (fill c p y m (subst (λ (d : List ℕ). from_session (of_length m) d 0 ≡ map (λ (ys : List ℕ). y ∷ ys) (of_length m (without d y)) ++ from_session (of_length m) d (y + 1)) at.rest (least.3 (of_length m))))
    ∙ ap (λ (d : List ℕ). behind c p (m + 1) (of_length (m + 1) d)) (sym at.rest)
    ∙ ap (λ (k : ℕ). behind c p k (of_length k left)) (sym long)

-- of two writes to one place the second stays
set_twice : (l : List ℕ) (i a b : ℕ) → set (set l i a) i b ≡ set l i b
set_twice [] i a b = refl
set_twice (x ∷ l) zero a b = refl
set_twice (x ∷ l) (suc i) a b = ap (λ (w : List ℕ). x ∷ w) (set_twice l i a b)

-- giving a turn back
pub give_back : (c p left : List ℕ) (x : ℕ) → IsAt c (p ++ x ∷ []) left → IsAt c p (set left x (get_or left x 0 + 1))
give_back c p left x at =
    let parts = path_pop c p x at.path in
    let d = left_after c p in
    let is : left ≡ set d x (get_or d x 0 - 1) = at.rest ∙ left_push c p x in
    let v : get_or left x 0 + 1 ≡ get_or d x 0 = let e = get_or-set_same d x (get_or d x 0 - 1) 0 parts.1 in let f = ap (λ (l : List ℕ). get_or l x 0) is in let g : 0 < get_or d x 0 = parts.2 in omega (arith, e, f, g) in
    record {
      path = parts.0;
      rest = rw (v, is) (set_twice d x (get_or d x 0 - 1) (get_or d x 0) ∙ set-get_or d x 0);
    }

-- no session has more turns left than it had
left_small : (c p : List ℕ) (i : ℕ) → get_or (left_after c p) i 0 ≤ get_or c i 0
left_small c [] i = omega arith
left_small c (x ∷ p) i = let ih : get_or (left_after (without c x) p) i 0 ≤ get_or (without c x) i 0 = left_small (without c x) p i in let one : get_or (without c x) i 0 ≤ get_or c i 0 = small c x i in omega (arith, ih, one)
  where
    small : (c : List ℕ) (x i : ℕ) → get_or (without c x) i 0 ≤ get_or c i 0
    small [] x i = omega arith
    small (d ∷ c) zero zero = let e : d - 1 ≤ d = omega arith in e
    small (d ∷ c) zero (suc i) = let e : get_or c i 0 ≤ get_or c i 0 = omega arith in e
    small (d ∷ c) (suc x) zero = let e : d ≤ d = omega arith in e
    small (d ∷ c) (suc x) (suc i) = small c x i

pub record Back (c left : List ℕ) (x : ℕ) : Type 0 where
  pub inside : x < length left
  pub small : get_or left x 0 + 1 ≤ get_or c x 0
  pub sum : sum (set left x (get_or left x 0 + 1)) ≡ sum left + 1

-- giving a turn back adds one to the sum
sum_more : (l : List ℕ) (x : ℕ) → x < length l → sum (set l x (get_or l x 0 + 1)) ≡ sum l + 1
sum_more l x h =
    let m = set l x (get_or l x 0 + 1) in
    let here : get_or m x 0 ≡ get_or l x 0 + 1 = get_or-set_same l x (get_or l x 0 + 1) 0 h in
    let some : 0 < get_or m x 0 = omega (arith, here) in
    let inside : x < length m = omega (arith, h, length-set l x (get_or l x 0 + 1)) in
    let v : get_or m x 0 - 1 ≡ get_or l x 0 = omega (arith, here) in
    let same : without m x ≡ l = ap (set m x) v ∙ set_twice l x (get_or l x 0 + 1) (get_or l x 0) ∙ set-get_or l x 0 in
    let less = sum_less m x inside some in
    sym less ∙ ap (λ (w : List ℕ). sum w + 1) same

-- what the last session of a prefix had left
pub back : (c p left : List ℕ) (x : ℕ) → IsAt c (p ++ x ∷ []) left → Back c left x
back c p left x at =
    let parts = path_pop c p x at.path in
    let d = left_after c p in
    let is : left ≡ set d x (get_or d x 0 - 1) = at.rest ∙ left_push c p x in
    let long : length left ≡ length d = ap length is ∙ length-set d x (get_or d x 0 - 1) in
    let v : get_or left x 0 ≡ get_or d x 0 - 1 = ap (λ (l : List ℕ). get_or l x 0) is ∙ get_or-set_same d x (get_or d x 0 - 1) 0 parts.1 in
    let inside : x < length left = omega (arith, long, parts.1) in
    record { inside = inside; small = omega (arith, v, parts.2, left_small c p x); sum = sum_more left x inside }

-- another session takes the place of the last one of a prefix
pub found_step : (c last left : List ℕ) (k y : ℕ) → k < length last → IsAt c (take k last) left → IsLeast left (get_or last k 0 + 1) y
    → behind c (take (k + 1) last) (length last - (k + 1)) [] ≡ behind c (take k last ++ y ∷ []) (length last - (k + 1)) (of_length (length last - (k + 1)) (without left y))
found_step c last left k y h at least =
    let n = length last - (k + 1) in
    let x = get_or last k 0 in
    let p = take k last in
    ap (λ (q : List ℕ). behind c q n []) (take_more last k 0 h)
    ∙ pop_found c p x y n (subst (λ (d : List ℕ). from_session (of_length n) d (x + 1) ≡ map (λ (ys : List ℕ). y ∷ ys) (of_length n (without d y)) ++ from_session (of_length n) d (y + 1)) at.rest (least.3 (of_length n)))
    ∙ ap (λ (d : List ℕ). behind c (p ++ y ∷ []) n (of_length n d)) (sym (at_push c p left (x + 1) y at least).rest)

-- no session takes the place of the last one of a prefix
pub none_step : (c last left : List ℕ) (k : ℕ) → k < length last → IsAt c (take k last) left → IsNoneLeft left (get_or last k 0 + 1)
    → behind c (take (k + 1) last) (length last - (k + 1)) [] ≡ behind c (take k last) (length last - k) []
none_step c last left k h at none =
    let n = length last - (k + 1) in
    let x = get_or last k 0 in
    let p = take k last in
    let more : n + 1 ≡ length last - k = omega arith in
    ap (λ (q : List ℕ). behind c q n []) (take_more last k 0 h)
    ∙ pop_none c p x n (subst (λ (d : List ℕ). from_session (of_length n) d (x + 1) ≡ []) at.rest (none (of_length n)))
    ∙ ap (λ (m : ℕ). behind c p m []) more
