-- The search for what is reached finds all of it, and nothing else, and comes to an end.
use Rattle.std.proofs.Common.{◌≡◌, ◌↔◌, refl, sym, ◌∙◌, ap, subst, ◌⊎◌, inl, inr, ◌==◌, Bool, true, false, cond, ◌&&◌, ℕ, zero, suc, ◌<◌, ◌≤◌, ◌+◌, ◌-◌, List, [], ◌∷◌, ◌++◌, length, arith, get_or}
use Rattle.std.specs.Prelude.{Some, IsTrue}
use Rattle.std.proofs.lemmas.Bool.{cases_lt, eqb-true, eq-eqb}
use Rattle.std.proofs.lemmas.List.{append-nil, append_assoc, length-append}
use Rattle.places.specs.declared.places.Places.{Places}
use Rattle.places.specs.Noted.{noted, has_place}
use Rattle.std.proofs.lemmas.List.Folds.{list_any-append}
use Rattle.row_versions.specs.declared.names.TxId.{TxId}
use Rattle.row_versions.specs.Members.{has, same_tx}
use Rattle.ordered_slots.specs.Kept.{has_no_slot_twice, has_slot, slots, value_in, values}
use Rattle.row_locks.specs.Waiting.{Waiting, is_wait_of}
use Rattle.row_locks.specs.Inner.Noting.{AreNoted, slots_of}
use Rattle.row_locks.specs.Inner.Searching.{blockers_at, blockers_in, reach, reach_one, spread}
use Rattle.row_locks.specs.Cycles.{Path, Leads, Closes, blocks}
use Rattle.row_locks.proofs.Cases.{bool_is, or_cases, or_left, or_right, and_both, both_and, same_is, is_same}
use Rattle.row_locks.proofs.Noting.{has_noted, noted_has, other_slot, value_here, value_there}
use Rattle.row_locks.proofs.Paths.{one_step, leads_on, nowhere}

pub has_left : (xs ys : List TxId) (z : TxId) → has xs z ≡ true → has (xs ++ ys) z ≡ true
has_left xs ys z h = list_any-append (λ o. same_tx o z) xs ys ∙ or_left (has xs z) (has ys z) h

pub has_right : (xs ys : List TxId) (z : TxId) → has ys z ≡ true → has (xs ++ ys) z ≡ true
has_right xs ys z h = list_any-append (λ o. same_tx o z) xs ys ∙ or_right (has xs z) (has ys z) h

pub has_cases : (xs ys : List TxId) (z : TxId) → has (xs ++ ys) z ≡ true → (has xs z ≡ true) ⊎ (has ys z ≡ true)
has_cases xs ys z h = or_cases (has xs z) (has ys z) (sym (list_any-append (λ o. same_tx o z) xs ys) ∙ h)

-- what is in a slot of the rest is so in all, where no slot has two values
further : {T : Type 0} (pair : ℕ × T) (rest : List (ℕ × T)) (slot : ℕ) (value : T) → has_slot rest pair.0 ≡ false → value_in rest slot ≡ Some value → value_in (pair ∷ rest) slot ≡ Some value
further pair rest slot value none is = rw (other_slot rest pair.0 slot value none is) is

-- a pair stands in the wait of some slot
pub pair_at : (waits : List (ℕ × Waiting)) (a b : TxId) → has_no_slot_twice waits → blocks (values waits) a b ≡ true → (slot : ℕ) × (w : Waiting) × (value_in waits slot ≡ Some w) × (w.tx ≡ a) × (has w.blockers b ≡ true) × (has_slot waits slot ≡ true)
pair_at [] a b apart h = cc
pair_at (pair ∷ waits) a b apart h = elim (or_cases (same_tx pair.1.tx a && has pair.1.blockers b) (blocks (values waits) a b) h) [
  | inl k ↦
      let p = and_both (same_tx pair.1.tx a) (has pair.1.blockers b) k in
      let same = eq-eqb pair.0 pair.0 refl in
      (pair.0, pair.1, rw same, same_is pair.1.tx a p.0, p.1, or_left (pair.0 == pair.0) (has_slot waits pair.0) same)
  | inr k ↦
      let r = pair_at waits a b apart.1 k in
      (r.0, r.1, further pair waits r.0 r.1 apart.0 r.2, r.3, r.4, or_right (pair.0 == r.0) (has_slot waits r.0) r.5)
]

pub pair_of : (waits : List (ℕ × Waiting)) (slot : ℕ) (w : Waiting) (b : TxId) → value_in waits slot ≡ Some w → has w.blockers b ≡ true → blocks (values waits) w.tx b ≡ true
pair_of [] slot w b e h = cc
pair_of (pair ∷ waits) slot w b e h = elim (bool_is (pair.0 == slot)) [
  | inl k ↦
      let is : pair.1 ≡ w = value_here pair waits slot w k e in
      or_left (same_tx pair.1.tx w.tx && has pair.1.blockers b) (blocks (values waits) w.tx b) (both_and (same_tx pair.1.tx w.tx) (has pair.1.blockers b) (subst (λ u. same_tx u.tx w.tx ≡ true) {x = w} {y = pair.1} (sym is) (is_same w.tx)) (subst (λ u. has u.blockers b ≡ true) {x = w} {y = pair.1} (sym is) h))
  | inr k ↦ or_right (same_tx pair.1.tx w.tx && has pair.1.blockers b) (blocks (values waits) w.tx b) (pair_of waits slot w b (value_there pair waits slot w k e) h)
]

-- ---- blockers of one wait
one_keeps : (reached : List TxId) (b z : TxId) → has reached z ≡ true → has (reach_one reached b) z ≡ true
one_keeps reached b z h = elim (bool_is (has reached b)) [
  | inl k ↦ rw k h
  | inr k ↦ rw k (has_left reached (b ∷ []) z h)
]

one_has : (reached : List TxId) (b z : TxId) → same_tx b z ≡ true → has (reach_one reached b) z ≡ true
one_has reached b z h = elim (bool_is (has reached b)) [
  | inl k ↦ rw k (subst (λ t. has reached t ≡ true) (same_is b z h) k)
  | inr k ↦ rw k (has_right reached (b ∷ []) z (or_left (same_tx b z) false h))
]

one_only : (reached : List TxId) (b z : TxId) → has (reach_one reached b) z ≡ true → (has reached z ≡ true) ⊎ (same_tx b z ≡ true)
one_only reached b z h = elim (bool_is (has reached b)) [
  | inl k ↦ inl (rw k at h)
  | inr k ↦ elim (has_cases reached (b ∷ []) z (rw k at h)) [
    | inl m ↦ inl m
    | inr m ↦ elim (or_cases (same_tx b z) false m) [ inl n ↦ inr n | inr n ↦ cc ]
  ]
]

reach_keeps : (bs reached : List TxId) (z : TxId) → has reached z ≡ true → has (reach bs reached) z ≡ true
reach_keeps [] reached z h = h
reach_keeps (b ∷ bs) reached z h = reach_keeps bs (reach_one reached b) z (one_keeps reached b z h)

reach_all : (bs reached : List TxId) (z : TxId) → has bs z ≡ true → has (reach bs reached) z ≡ true
reach_all [] reached z h = cc
reach_all (b ∷ bs) reached z h = elim (or_cases (same_tx b z) (has bs z) h) [
  | inl k ↦ reach_keeps bs (reach_one reached b) z (one_has reached b z k)
  | inr k ↦ reach_all bs (reach_one reached b) z k
]

reach_only : (bs reached : List TxId) (z : TxId) → has (reach bs reached) z ≡ true → (has reached z ≡ true) ⊎ (has bs z ≡ true)
reach_only [] reached z h = inl h
reach_only (b ∷ bs) reached z h = elim (reach_only bs (reach_one reached b) z h) [
  | inl k ↦ elim (one_only reached b z k) [
    | inl m ↦ inl m
    | inr m ↦ inr (or_left (same_tx b z) (has bs z) m)
  ]
  | inr k ↦ inr (or_right (same_tx b z) (has bs z) k)
]

-- what is reached already stays in front
abbrev Begins : List TxId → List TxId → Type 0
Begins reached after = (more : List TxId) × (after ≡ reached ++ more)

begins_on : (xs ys zs : List TxId) → Begins xs ys → Begins ys zs → Begins xs zs
begins_on xs ys zs p q = (p.0 ++ q.0, q.1 ∙ ap (λ l. l ++ q.0) p.1 ∙ append_assoc xs p.0 q.0)

one_begins : (reached : List TxId) (b : TxId) → Begins reached (reach_one reached b)
one_begins reached b = elim (bool_is (has reached b)) [
  | inl k ↦ ([], rw k (sym (append-nil reached)))
  | inr k ↦ (b ∷ [], rw k)
]

reach_begins : (bs reached : List TxId) → Begins reached (reach bs reached)
reach_begins [] reached = ([], sym (append-nil reached))
reach_begins (b ∷ bs) reached = begins_on reached (reach_one reached b) (reach bs (reach_one reached b)) (one_begins reached b) (reach_begins bs (reach_one reached b))

-- ---- blockers of the waits in some slots
spread_keeps : (waits : List (ℕ × Waiting)) (slots : List ℕ) (reached : List TxId) (z : TxId) → has reached z ≡ true → has (spread waits slots reached) z ≡ true
spread_keeps waits [] reached z h = h
spread_keeps waits (slot ∷ slots) reached z h = spread_keeps waits slots (reach (blockers_at waits slot) reached) z (reach_keeps (blockers_at waits slot) reached z h)

spread_all : (waits : List (ℕ × Waiting)) (slots : List ℕ) (reached : List TxId) (slot : ℕ) (z : TxId) → has_place slots slot ≡ true → has (blockers_at waits slot) z ≡ true → has (spread waits slots reached) z ≡ true
spread_all waits [] reached slot z there h = cc
spread_all waits (first ∷ slots) reached slot z there h = elim (or_cases (first == slot) (has_place slots slot) there) [
  | inl k ↦ spread_keeps waits slots (reach (blockers_at waits first) reached) z (reach_all (blockers_at waits first) reached z (subst (λ n. has (blockers_at waits n) z ≡ true) (sym (eqb-true first slot k)) h))
  | inr k ↦ spread_all waits slots (reach (blockers_at waits first) reached) slot z k h
]

spread_only : (waits : List (ℕ × Waiting)) (slots : List ℕ) (reached : List TxId) (z : TxId) → has (spread waits slots reached) z ≡ true → (has reached z ≡ true) ⊎ ((slot : ℕ) × (has_place slots slot ≡ true) × (has (blockers_at waits slot) z ≡ true))
spread_only waits [] reached z h = inl h
spread_only waits (first ∷ slots) reached z h = elim (spread_only waits slots (reach (blockers_at waits first) reached) z h) [
  | inl k ↦ elim (reach_only (blockers_at waits first) reached z k) [
    | inl m ↦ inl m
    | inr m ↦ inr (first, or_left (first == first) (has_place slots first) (eq-eqb first first refl), m)
  ]
  | inr k ↦ inr (k.0, or_right (first == k.0) (has_place slots k.0) k.1, k.2)
]

spread_begins : (waits : List (ℕ × Waiting)) (slots : List ℕ) (reached : List TxId) → Begins reached (spread waits slots reached)
spread_begins waits [] reached = ([], sym (append-nil reached))
spread_begins waits (slot ∷ slots) reached = begins_on reached (reach (blockers_at waits slot) reached) (spread waits slots (reach (blockers_at waits slot) reached)) (reach_begins (blockers_at waits slot) reached) (spread_begins waits slots (reach (blockers_at waits slot) reached))

-- ---- how many are still to be reached at most
-- how many of all aren't reached
abbrev left : List TxId → List TxId → ℕ
left [] reached = 0
left (u ∷ all) reached = cond (has reached u) (left all reached) (1 + left all reached)

left_more : (all reached more : List TxId) → left all (reached ++ more) ≤ left all reached
left_more [] reached more = omega arith
left_more (u ∷ all) reached more =
    let on = left_more all reached more in
    elim (bool_is (has reached u)) [
      | inl k ↦ rw (k, has_left reached more u k) on
      | inr k ↦ elim (bool_is (has (reached ++ more) u)) [
        | inl m ↦ rw (k, m) (omega arith)
        | inr m ↦ rw (k, m) (omega arith)
      ]
    ]

left_less : (all reached : List TxId) (b : TxId) → has all b ≡ true → has reached b ≡ false → left all (reached ++ b ∷ []) + 1 ≤ left all reached
left_less [] reached b h none = cc
left_less (u ∷ all) reached b h none = elim (or_cases (same_tx u b) (has all b) h) [
  | inl k ↦
      let e : u ≡ b = same_is u b k in
      let before : has reached u ≡ false = subst (λ t. has reached t ≡ false) (sym e) none in
      let after : has (reached ++ b ∷ []) u ≡ true = has_right reached (b ∷ []) u (or_left (same_tx b u) false (subst (λ t. same_tx t u ≡ true) e (is_same u))) in
      let on = left_more all reached (b ∷ []) in
      rw (before, after) (omega arith)
  | inr k ↦
      let on = left_less all reached b k none in
      elim (bool_is (has reached u)) [
        | inl m ↦ rw (m, has_left reached (b ∷ []) u m) on
        | inr m ↦ elim (bool_is (has (reached ++ b ∷ []) u)) [
          | inl n ↦ rw (m, n) (omega arith)
          | inr n ↦ rw (m, n) (omega arith)
        ]
      ]
]

abbrev AreOf : List TxId → List TxId → Type 0
AreOf all bs = (z : TxId) → has bs z ≡ true → has all z ≡ true

one_measured : (all reached : List TxId) (b : TxId) → has all b ≡ true → left all (reach_one reached b) + length (reach_one reached b) ≤ left all reached + length reached
one_measured all reached b h = elim (bool_is (has reached b)) [
  | inl k ↦ rw k (omega arith)
  | inr k ↦ rw k (let l = left_less all reached b h k in omega (arith, length-append reached (b ∷ [])))
]

reach_measured : (all bs reached : List TxId) → AreOf all bs → left all (reach bs reached) + length (reach bs reached) ≤ left all reached + length reached
reach_measured all [] reached are = omega arith
reach_measured all (b ∷ bs) reached are =
    let first = one_measured all reached b (are b (or_left (same_tx b b) (has bs b) (is_same b))) in
    let rest = reach_measured all bs (reach_one reached b) (λ z h. are z (or_right (same_tx b z) (has bs z) h)) in
    omega arith

abbrev all_blockers : List (ℕ × Waiting) → List TxId
all_blockers [] = []
all_blockers (pair ∷ waits) = pair.1.blockers ++ all_blockers waits

of_all : (waits : List (ℕ × Waiting)) (slot : ℕ) → AreOf (all_blockers waits) (blockers_at waits slot)
of_all [] slot z h = cc
of_all (pair ∷ waits) slot z h = elim (bool_is (pair.0 == slot)) [
  | inl k ↦ has_left pair.1.blockers (all_blockers waits) z (rw k at h)
  | inr k ↦ has_right pair.1.blockers (all_blockers waits) z (of_all waits slot z (rw k at h))
]

-- how long the search may still take
abbrev pub still : List (ℕ × Waiting) → List TxId → ℕ → ℕ
still waits reached next = (left (all_blockers waits) reached + length reached) - next

spread_measured : (waits : List (ℕ × Waiting)) (slots : List ℕ) (reached : List TxId) → left (all_blockers waits) (spread waits slots reached) + length (spread waits slots reached) ≤ left (all_blockers waits) reached + length reached
spread_measured waits [] reached = omega arith
spread_measured waits (slot ∷ slots) reached =
    let first = reach_measured (all_blockers waits) (blockers_at waits slot) reached (of_all waits slot) in
    let rest = spread_measured waits slots (reach (blockers_at waits slot) reached) in
    omega arith

pub nearer : (waits : List (ℕ × Waiting)) (slots : List ℕ) (reached after : List TxId) (next : ℕ) → after ≡ spread waits slots reached → next < length reached → still waits after (next + 1) < still waits reached next
nearer waits slots reached after next e l =
    let m = spread_measured waits slots reached in
    subst (λ xs. still waits xs (next + 1) < still waits reached next) (sym e) (omega arith)

-- ---- the search
-- what is reached is reached from the blockers, they are reached, and the waits of the first have had their blockers reached
pub record Spreads (waits : List (ℕ × Waiting)) (blockers : List TxId) (next : ℕ) (reached : List TxId) : Type 0 where
  pub sound : (z : TxId) → has reached z ≡ true → (b : TxId) × (has blockers b ≡ true) × Leads (blocks (values waits)) b z
  pub from : (b : TxId) → has blockers b ≡ true → has reached b ≡ true
  pub within : next ≤ length reached
  pub done : (k : ℕ) (d : TxId) → k < next → (b : TxId) → blocks (values waits) (get_or reached k d) b ≡ true → has reached b ≡ true

pub spreads_init : (waits : List (ℕ × Waiting)) (blockers : List TxId) → Spreads waits blockers 0 blockers
spreads_init waits blockers = record {
  sound = λ z h. (z, h, nowhere (blocks (values waits)) z);
  from = λ b h. h;
  within = omega arith;
  done = λ k d l. absurd (omega arith);
}

has_at : (xs : List TxId) (k : ℕ) (d : TxId) → k < length xs → has xs (get_or xs k d) ≡ true
has_at [] k d l = absurd (omega arith)
has_at (x ∷ xs) zero d l = or_left (same_tx x x) (has xs x) (is_same x)
has_at (x ∷ xs) (suc k) d l = or_right (same_tx x (get_or xs k d)) (has xs (get_or xs k d)) (has_at xs k d (omega arith))

read_in : (xs more : List TxId) (k : ℕ) (d e : TxId) → k < length xs → get_or (xs ++ more) k d ≡ get_or xs k e
read_in [] more k d e l = absurd (omega arith)
read_in (x ∷ xs) more zero d e l = refl
read_in (x ∷ xs) more (suc k) d e l = read_in xs more k d e (omega arith)

longer : (xs more : List TxId) → length xs ≤ length (xs ++ more)
longer [] more = omega arith
longer (x ∷ xs) more = let l = longer xs more in omega arith

pub spreads_step : (waits : List (ℕ × Waiting)) (by_tx : Places) (blockers : List TxId) (next : ℕ) (reached after : List TxId) (a : TxId) → has_no_slot_twice waits → AreNoted (λ (w : Waiting). w.tx.0) by_tx waits → next < length reached → a ≡ get_or reached next a
    → after ≡ spread waits (noted by_tx a.0) reached → Spreads waits blockers next reached → Spreads waits blockers (next + 1) after
spreads_step waits by_tx blockers next reached after a apart are l is e s =
    subst (λ xs. Spreads waits blockers (next + 1) xs) (sym (e ∙ ap (λ slots. spread waits slots reached) (are a.0))) (record {
      sound = λ z h. elim (spread_only waits (slots_of (is_wait_of a) waits) reached z h) [
        | inl k ↦ s.sound z k
        | inr k ↦
            let w = noted_has (is_wait_of a) waits k.0 apart k.1 in
            let pair : blocks (values waits) w.0.tx z ≡ true = pair_of waits k.0 w.0 z w.1 (subst (λ o. has (blockers_in o) z ≡ true) w.1 k.2) in
            let r = s.sound a (subst (λ t. has reached t ≡ true) (sym is) (has_at reached next a l)) in
            (r.0, r.1, leads_on (blocks (values waits)) r.0 a z r.2 (one_step (blocks (values waits)) a z z (subst (λ t. blocks (values waits) t z ≡ true) (same_is w.0.tx a w.2) pair) (nowhere (blocks (values waits)) z)))
      ];
      from = λ b h. spread_keeps waits (slots_of (is_wait_of a) waits) reached b (s.from b h);
      within = (let g = spread_begins waits (slots_of (is_wait_of a) waits) reached in subst (λ xs. next + 1 ≤ length xs) (sym g.1) (let m = longer reached g.0 in omega arith));
      done = λ k d m b h.
          let g = spread_begins waits (slots_of (is_wait_of a) waits) reached in
          let p : blocks (values waits) (get_or reached k a) b ≡ true = subst (λ t. blocks (values waits) t b ≡ true) (ap (λ xs. get_or xs k d) g.1 ∙ read_in reached g.0 k d a (omega arith)) h in
          elim (cases_lt k next) [
            | inl n ↦ spread_keeps waits (slots_of (is_wait_of a) waits) reached b (s.done k a n b p)
            | inr n ↦
                let here : k ≡ next = omega arith in
                let q : blocks (values waits) a b ≡ true = subst (λ t. blocks (values waits) t b ≡ true) (ap (λ i. get_or reached i a) here ∙ sym is) p in
                let r = pair_at waits a b apart q in
                spread_all waits (slots_of (is_wait_of a) waits) reached r.0 b
                (has_noted (is_wait_of a) waits r.0 r.1 r.2 (subst (λ t. same_tx t a ≡ true) (sym r.3) (is_same a)))
                (subst (λ o. has (blockers_in o) b ≡ true) (sym r.2) r.4)
          ];
    })

place_in : (xs : List TxId) (a : TxId) → has xs a ≡ true → (k : ℕ) × (k < length xs) × (get_or xs k a ≡ a)
place_in [] a h = cc
place_in (x ∷ xs) a h = elim (or_cases (same_tx x a) (has xs a) h) [
  | inl k ↦ (0, omega arith, same_is x a k)
  | inr k ↦ let r = place_in xs a k in (suc r.0, (let l = r.1 in omega arith), r.2)
]

-- at the end what is reached has its blockers reached
closed : (waits : List (ℕ × Waiting)) (blockers : List TxId) (next : ℕ) (reached : List TxId) → Spreads waits blockers next reached → length reached ≤ next → (a b : TxId) → blocks (values waits) a b ≡ true → has reached a ≡ true → has reached b ≡ true
closed waits blockers next reached s l a b h k =
    let r = place_in reached a k in
    s.done r.0 a (let m = r.1 in omega arith) b (subst (λ t. blocks (values waits) t b ≡ true) (sym r.2) h)

along : (E : TxId → TxId → Bool) (reached : List TxId) → ((a b : TxId) → E a b ≡ true → has reached a ≡ true → has reached b ≡ true) → (a : TxId) (over : List TxId) (z : TxId) → Path E a over z → has reached a ≡ true → has reached z ≡ true
along E reached on a [] z p h = subst (λ t. has reached t ≡ true) p h
along E reached on a (b ∷ over) z p h = along E reached on b over z p.1 (on a b p.0 h)

pub spreads_end : (waits : List (ℕ × Waiting)) (blockers : List TxId) (next : ℕ) (reached last : List TxId) (tx : TxId) (is_so : Bool) → Spreads waits blockers next reached → length reached ≤ next → last ≡ reached → is_so ≡ has last tx → IsTrue is_so ↔ Closes (blocks (values waits)) tx blockers
spreads_end waits blockers next reached last tx is_so s l e is = rw (is, e) (
  λ h. s.sound tx h,
  λ c. along (blocks (values waits)) reached (closed waits blockers next reached s l) c.0 c.2.0 tx c.2.1 (s.from c.0 c.1),
)
