-- What is held, lock by lock: who stands against a request, and what locks and ends change.
use Rattle.std.proofs.Common.{◌≡◌, refl, sym, ◌∙◌, ap, subst, inl, inr, Bool, true, false, cond, not, ◌||◌, ◌&&◌, ◌==◌, ℕ, List, [], ◌∷◌, map, filter}
use Rattle.std.proofs.lemmas.Bool.{eqb-true, eq-eqb}
use Rattle.std.proofs.lemmas.Map.Views.{any-filter_same}
use denote.Enum.Bare.{same_true, true_same}
use Rattle.row_versions.specs.declared.names.TxId.{TxId}
use Rattle.row_versions.specs.declared.names.RowId.{RowId}
use Rattle.sql_trees.specs.declared.stmt.Strength.{Strength}
use Rattle.sql_trees.specs.declared.stmt.Strength.TheVariants.{KeyShare, Share, NoKeyUpdate, Update}
use Rattle.sql_trees.specs.contracts.stmt.Strength.{the_type as the_strength}
use Rattle.row_locks.specs.declared.held.Held.{Held}
use Rattle.row_versions.specs.Members.{has, same_tx}
use Rattle.row_locks.specs.Inner.Searching.{is_against}
use Rattle.row_locks.specs.Held.{conflicts, holders_against, same_strength, same_lock, holds}
use Rattle.row_locks.specs.Laws.{SameLocks, SameButFor, ConflictsGoBothWays, BlockersHoldInConflict, BlockersByWhatIsHeld, DoingAddsOnlyTheDoer, LocksAreHeld, EndsLetGo}
use Rattle.row_locks.proofs.Cases.{bool_is, or_cases, or_left, or_right, and_both, both_and, same_is, is_same}

pub strength_is : (a b : Strength) → same_strength a b ≡ true → a ≡ b
strength_is a b e = same_true the_strength tt a b e

pub is_strength : (a : Strength) → same_strength a a ≡ true
is_strength a = true_same the_strength a a refl

-- the table is the same in both directions
pub conflicts_both_ways : ConflictsGoBothWays
conflicts_both_ways KeyShare KeyShare = refl
conflicts_both_ways KeyShare Share = refl
conflicts_both_ways KeyShare NoKeyUpdate = refl
conflicts_both_ways KeyShare Update = refl
conflicts_both_ways Share KeyShare = refl
conflicts_both_ways Share Share = refl
conflicts_both_ways Share NoKeyUpdate = refl
conflicts_both_ways Share Update = refl
conflicts_both_ways NoKeyUpdate KeyShare = refl
conflicts_both_ways NoKeyUpdate Share = refl
conflicts_both_ways NoKeyUpdate NoKeyUpdate = refl
conflicts_both_ways NoKeyUpdate Update = refl
conflicts_both_ways Update KeyShare = refl
conflicts_both_ways Update Share = refl
conflicts_both_ways Update NoKeyUpdate = refl
conflicts_both_ways Update Update = refl

row_is : (a b : RowId) → (a.0 == b.0) ≡ true → a ≡ b
row_is a b h = let mk : ℕ → RowId = λ n. record { 0 = n } in ap mk (eqb-true a.0 b.0 h)

pub lock_tx : (a b : Held) → same_lock a b ≡ true → a.tx ≡ b.tx
lock_tx a b e =
    let p = and_both ((a.row.0 == b.row.0) && same_tx a.tx b.tx) (same_strength a.strength b.strength) e in
    same_is a.tx b.tx (and_both (a.row.0 == b.row.0) (same_tx a.tx b.tx) p.0).1

pub lock_is : (a b : Held) → same_lock a b ≡ true → a ≡ b
lock_is a b e =
    let p = and_both ((a.row.0 == b.row.0) && same_tx a.tx b.tx) (same_strength a.strength b.strength) e in
    let q = and_both (a.row.0 == b.row.0) (same_tx a.tx b.tx) p.0 in
    let mk : RowId → TxId → Strength → Held = λ r t s. record { row = r; tx = t; strength = s } in
    ap (λ r. mk r a.tx a.strength) (row_is a.row b.row q.0) ∙ ap (λ t. mk b.row t a.strength) (same_is a.tx b.tx q.1) ∙ ap (λ s. mk b.row b.tx s) (strength_is a.strength b.strength p.1)

pub is_lock : (a : Held) → same_lock a a ≡ true
is_lock a = both_and ((a.row.0 == a.row.0) && same_tx a.tx a.tx) (same_strength a.strength a.strength) (both_and (a.row.0 == a.row.0) (same_tx a.tx a.tx) (eq-eqb a.row.0 a.row.0 refl) (is_same a.tx)) (is_strength a.strength)

-- what is left where a transaction's locks are taken out
pub released : (held : List Held) (tx : TxId) (h : Held) → holds (filter (λ (g : Held). not (same_tx g.tx tx)) held) h ≡ (not (same_tx h.tx tx) && holds held h)
released held tx h = any-filter_same (λ (g : Held). same_lock g h) (λ (g : Held). not (same_tx g.tx tx)) (not (same_tx h.tx tx)) (λ g e. ap (λ t. not (same_tx t tx)) (lock_tx g h e)) held

-- a blocker holds a lock against the request
against_some : (held : List Held) (row : RowId) (tx : TxId) (s : Strength) (u : TxId) → has (holders_against held row tx s) u ≡ true → (h : Held) × (is_against row tx s h ≡ true) × (h.tx ≡ u) × (holds held h ≡ true)
against_some [] row tx s u e = cc
against_some (h ∷ held) row tx s u e = elim (bool_is (is_against row tx s h)) [
  | inl k ↦ elim (or_cases (same_tx h.tx u) (has (holders_against held row tx s) u) (subst (λ b. has (map (λ (g : Held). g.tx) (cond b (h ∷ filter (is_against row tx s) held) (filter (is_against row tx s) held))) u ≡ true) k e)) [
    | inl m ↦ (h, k, same_is h.tx u m, or_left (same_lock h h) (holds held h) (is_lock h))
    | inr m ↦ let r = against_some held row tx s u m in (r.0, r.1, r.2, or_right (same_lock h r.0) (holds held r.0) r.3)
  ]
  | inr k ↦
      let m : has (holders_against held row tx s) u ≡ true = subst (λ b. has (map (λ (g : Held). g.tx) (cond b (h ∷ filter (is_against row tx s) held) (filter (is_against row tx s) held))) u ≡ true) k e in
      let r = against_some held row tx s u m in (r.0, r.1, r.2, or_right (same_lock h r.0) (holds held r.0) r.3)
]

-- who holds a lock against the request is a blocker
some_against : (held : List Held) (row : RowId) (tx : TxId) (s : Strength) (h : Held) → holds held h ≡ true → is_against row tx s h ≡ true → has (holders_against held row tx s) h.tx ≡ true
some_against [] row tx s h e k = cc
some_against (g ∷ held) row tx s h e k = elim (or_cases (same_lock g h) (holds held h) e) [
  | inl m ↦
      let k' : is_against row tx s g ≡ true = subst (λ x. is_against row tx s x ≡ true) (sym (lock_is g h m)) k in
      subst (λ b. has (map (λ (x : Held). x.tx) (cond b (g ∷ filter (is_against row tx s) held) (filter (is_against row tx s) held))) h.tx ≡ true) (sym k')
      (or_left (same_tx g.tx h.tx) (has (holders_against held row tx s) h.tx) (subst (λ t. same_tx t h.tx ≡ true) (sym (lock_tx g h m)) (is_same h.tx)))
  | inr m ↦ elim (bool_is (is_against row tx s g)) [
    | inl n ↦ subst (λ b. has (map (λ (x : Held). x.tx) (cond b (g ∷ filter (is_against row tx s) held) (filter (is_against row tx s) held))) h.tx ≡ true) (sym n)
        (or_right (same_tx g.tx h.tx) (has (holders_against held row tx s) h.tx) (some_against held row tx s h m k))
    | inr n ↦ subst (λ b. has (map (λ (x : Held). x.tx) (cond b (g ∷ filter (is_against row tx s) held) (filter (is_against row tx s) held))) h.tx ≡ true) (sym n)
        (some_against held row tx s h m k)
  ]
]

other_tx : (a b : TxId) → (a ≡ b → ⊥) → same_tx a b ≡ false
other_tx a b ne = elim (bool_is (same_tx a b)) [ inl e ↦ absurd (ne (same_is a b e)) | inr e ↦ e ]

tx_other : (a b : TxId) → not (same_tx a b) ≡ true → a ≡ b → ⊥
tx_other a b h e = let k : same_tx a b ≡ true = subst (λ t. same_tx a t ≡ true) e (is_same a) in let n = ap not k in cc

pub blockers_hold : BlockersHoldInConflict
blockers_hold held row tx s u = (
  λ e.
      let r = against_some held row tx s u e in
      let h = r.0 in
      let p = and_both ((h.row.0 == row.0) && not (same_tx h.tx tx)) (conflicts h.strength s) r.1 in
      let q = and_both (h.row.0 == row.0) (not (same_tx h.tx tx)) p.0 in
      let mk : RowId → TxId → Held = λ x t. record { row = x; tx = t; strength = h.strength } in
      let is : h ≡ mk row u = ap (λ x. mk x h.tx) (row_is h.row row q.0) ∙ ap (λ t. mk row t) r.2 in
      (λ eq. tx_other h.tx tx q.1 (r.2 ∙ eq), (h.strength, subst (λ x. holds held x ≡ true) is r.3, p.1)),
  λ k.
      let h : Held = record { row = row; tx = u; strength = k.1.0 } in
      some_against held row tx s h k.1.1 (both_and ((row.0 == row.0) && not (same_tx u tx)) (conflicts k.1.0 s) (both_and (row.0 == row.0) (not (same_tx u tx)) (eq-eqb row.0 row.0 refl) (ap not (other_tx u tx k.0))) k.1.2),
)

pub both_ways : (a b : Bool) → (a ≡ true → b ≡ true) → (b ≡ true → a ≡ true) → a ≡ b
both_ways true b to from = sym (to refl)
both_ways false true to from = from refl
both_ways false false to from = refl

-- whom the locks of others block, they block where the same are held
still_against : (held others : List Held) → SameLocks held others → (row : RowId) (tx : TxId) (s : Strength) (u : TxId) → has (holders_against held row tx s) u ≡ true → has (holders_against others row tx s) u ≡ true
still_against held others same row tx s u e =
    let k = (blockers_hold held row tx s u).0 e in
    (blockers_hold others row tx s u).1 (k.0, (k.1.0, sym (same (record { row = row; tx = u; strength = k.1.0 })) ∙ k.1.1, k.1.2))

pub by_what_is_held : BlockersByWhatIsHeld
by_what_is_held held others same row tx s u =
    both_ways (has (holders_against held row tx s) u) (has (holders_against others row tx s) u)
    (still_against held others same row tx s u)
    (still_against others held (λ h. sym (same h)) row tx s u)

-- where the others hold the same, they block the same
less_against : (x : TxId) (old new : List Held) → SameButFor x old new → (row : RowId) (tx : TxId) (s : Strength) (u : TxId) → (u ≡ x → ⊥) → has (holders_against old row tx s) u ≡ true → has (holders_against new row tx s) u ≡ true
less_against x old new same row tx s u ne e =
    let k = (blockers_hold old row tx s u).0 e in
    (blockers_hold new row tx s u).1 (k.0, (k.1.0, same (record { row = row; tx = u; strength = k.1.0 }) ne ∙ k.1.1, k.1.2))

pub only_the_doer : DoingAddsOnlyTheDoer
only_the_doer x old new same row tx s u ne =
    both_ways (has (holders_against new row tx s) u) (has (holders_against old row tx s) u)
    (less_against x new old (λ h other. sym (same h other)) row tx s u ne)
    (less_against x old new same row tx s u ne)

-- a lock that was taken is held, and those of others are as before
pub locks_held : LocksAreHeld
locks_held held after h taken = (
  taken h ∙ or_right (holds held h) (same_lock h h) (is_lock h),
  λ g other. taken g ∙ no_more (holds held g) (same_lock h g) (λ e. other (sym (lock_tx h g e))),
) where
  no_more : (a b : Bool) → (b ≡ true → ⊥) → (a || b) ≡ a
  no_more true b none = refl
  no_more false true none = absurd (none refl)
  no_more false false none = refl

pub ends_let_go : EndsLetGo
ends_let_go held after x release = (
  λ h is. release h ∙ ap (λ v. not v && holds held h) (subst (λ t. same_tx h.tx t ≡ true) is (is_same h.tx)),
  λ h other. release h ∙ ap (λ v. not v && holds held h) (other_tx h.tx x other),
)
