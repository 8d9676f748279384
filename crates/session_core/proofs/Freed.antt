-- The session with the earliest wait that nothing blocks is the one that is found.
use Rattle.std.proofs.Common.{◌≡◌, refl, sym, ◌∙◌, ap, subst, Bool, true, false, cond, ◌&&◌, ℕ, ◌+◌, ◌≤◌, List, [], ◌∷◌, arith}
use Rattle.std.specs.Prelude.{Option, Some, None, nat_le, nat_lt, option_map, if◌then◌else◌}
use Rattle.std.specs.List.{list_all, position_from}
use Rattle.std.specs.Option.{option_map_or}
use Rattle.std.proofs.lemmas.Bool.{and_parts, and_from, leb-true, le-leb, lt-leb, ltb-true, ltb-false}
use Rattle.session_machine.specs.declared.session.Session.{Session}
use Rattle.session_machine.specs.Tables.{Database}
use Rattle.session_machine.specs.Machine.{free_wait, is_first_free}
use Rattle.session_core.specs.Inner.Freed.{FreeWait, sooner, earliest_free}

-- none of the waits that nothing blocks has a number below this one
abbrev none_below : Database → ℕ → List Session → Bool
none_below db n ss = list_all (λ (s : Session). option_map_or (nat_le n) (free_wait db s) true) ss

abbrev at_most : ℕ → Option ℕ → Bool
at_most m o = option_map_or (λ n. nat_le n m) o false

no_wait : (w : FreeWait) → None ≡ Some w → ⊥
no_wait w h = cc

same_wait : (v w : FreeWait) → Some v ≡ Some w → v ≡ w
same_wait v w h = cc

some_wait : (b : Bool) (v w : FreeWait) → (let o : Option FreeWait = if b then Some v else Some w in o ≡ None) → ⊥
some_wait true v w h = cc
some_wait false v w h = cc

le_self : (n : ℕ) → nat_le n n ≡ true
le_self n = le-leb n n (omega arith)

none_free : (db : Database) (k : ℕ) (ss : List Session) → earliest_free db k ss ≡ None → (n : ℕ) → none_below db n ss ≡ true
none_free db k [] h n = refl
none_free db k (s ∷ ss) h n = by (free_wait db s) (earliest_free db (k + 1) ss) (λ e. none_free db (k + 1) ss e n) h where
  by : (o : Option ℕ) (other : Option FreeWait) → (other ≡ None → none_below db n ss ≡ true) → sooner o k other ≡ None → (option_map_or (nat_le n) o true && none_below db n ss) ≡ true
  by None other on e = on e
  by (Some m) None on e = cc
  by (Some m) (Some v) on e = absurd (some_wait (nat_lt v.number m) v (record { number = m; session = k }) e)

none_found : (db : Database) (k : ℕ) (ss : List Session) (p : ℕ → Bool) → earliest_free db k ss ≡ None → position_from (λ s. option_map_or p (free_wait db s) false) k ss ≡ None
none_found db k [] p h = refl
none_found db k (s ∷ ss) p h = by (free_wait db s) (earliest_free db (k + 1) ss) (none_found db (k + 1) ss p) h where
  by : (o : Option ℕ) (other : Option FreeWait) → (other ≡ None → position_from (λ x. option_map_or p (free_wait db x) false) (k + 1) ss ≡ None) → sooner o k other ≡ None
      → (let q : Option ℕ = cond (option_map_or p o false) (Some k) (position_from (λ x. option_map_or p (free_wait db x) false) (k + 1) ss) in q ≡ None)
  by None other on e = on e
  by (Some m) None on e = cc
  by (Some m) (Some v) on e = absurd (some_wait (nat_lt v.number m) v (record { number = m; session = k }) e)

weaker : (db : Database) (m n : ℕ) (ss : List Session) → m ≤ n → none_below db n ss ≡ true → none_below db m ss ≡ true
weaker db m n [] l h = refl
weaker db m n (s ∷ ss) l h = by (free_wait db s) (weaker db m n ss l) h where
  by : (o : Option ℕ) → (none_below db n ss ≡ true → none_below db m ss ≡ true) → (option_map_or (nat_le n) o true && none_below db n ss) ≡ true
      → (option_map_or (nat_le m) o true && none_below db m ss) ≡ true
  by None on k = on k
  by (Some q) on k = let p = and_parts _ _ k in let g = leb-true n q p.0 in and_from _ _ (le-leb m q (omega arith)) (on p.1)

-- the wait is that of the first session with the least number, where the first session's is this one, if it has one
record IsLeast (db : Database) (k : ℕ) (o : Option ℕ) (ss : List Session) (w : FreeWait) : Type 0 where
  pub low : (option_map_or (nat_le w.number) o true && none_below db w.number ss) ≡ true
  pub reached : (n : ℕ) → (option_map_or (nat_le n) o true && none_below db n ss) ≡ true → nat_le n w.number ≡ true
  pub first : (let q : Option ℕ = cond (at_most w.number o) (Some k) (position_from (λ s. at_most w.number (free_wait db s)) (k + 1) ss) in q ≡ Some w.session)

-- the same of a list
record AreLeast (db : Database) (k : ℕ) (ss : List Session) (w : FreeWait) : Type 0 where
  pub low : none_below db w.number ss ≡ true
  pub reached : (n : ℕ) → none_below db n ss ≡ true → nat_le n w.number ≡ true
  pub first : position_from (λ s. at_most w.number (free_wait db s)) k ss ≡ Some w.session

least : (db : Database) (k : ℕ) (ss : List Session) (w : FreeWait) → earliest_free db k ss ≡ Some w → AreLeast db k ss w
least db k [] w h = absurd (no_wait w h)
least db k (s ∷ ss) w h =
    let l = by (free_wait db s) (earliest_free db (k + 1) ss) (none_free db (k + 1) ss) (λ v e. least db (k + 1) ss v e) h in
    record { low = l.low; reached = l.reached; first = l.first } where
      here : (m : ℕ) → none_below db m ss ≡ true → IsLeast db k (Some m) ss (record { number = m; session = k })
      here m low = record {
        low = and_from _ _ (le_self m) low;
        reached = λ n h. (and_parts _ _ h).0;
        first = ap (λ b. cond b (Some k) (position_from (λ s. at_most m (free_wait db s)) (k + 1) ss)) (le_self m);
      }

      either : (m : ℕ) (v : FreeWait) (b : Bool) → nat_lt v.number m ≡ b → AreLeast db (k + 1) ss v
          → (let y : Option FreeWait = if b then Some v else Some (record { number = m; session = k }) in y ≡ Some w) → IsLeast db k (Some m) ss w
      either m v true t l e = let g = ltb-true v.number m t in subst (λ x. IsLeast db k (Some m) ss x) (same_wait v w e) (record {
        low = and_from _ _ (le-leb v.number m (omega arith)) l.low;
        reached = λ n h. l.reached n (and_parts _ _ h).1;
        first = ap (λ b. cond b (Some k) (position_from (λ s. at_most v.number (free_wait db s)) (k + 1) ss)) (lt-leb m v.number g) ∙ l.first;
      })
      either m v false t l e = let g = ltb-false v.number m t in
          subst (λ x. IsLeast db k (Some m) ss x) (same_wait (record { number = m; session = k }) w e) (here m (weaker db m v.number ss g l.low))

      by : (o : Option ℕ) (other : Option FreeWait) → (other ≡ None → (n : ℕ) → none_below db n ss ≡ true) → ((v : FreeWait) → other ≡ Some v → AreLeast db (k + 1) ss v)
          → sooner o k other ≡ Some w → IsLeast db k o ss w
      by None None none on e = absurd (no_wait w e)
      by None (Some v) none on e = let l = on v refl in subst (λ x. IsLeast db k None ss x) (same_wait v w e) (record { low = l.low; reached = l.reached; first = l.first })
      by (Some m) None none on e = subst (λ x. IsLeast db k (Some m) ss x) (same_wait (record { number = m; session = k }) w e) (here m (none refl m))
      by (Some m) (Some v) none on e = either m v (nat_lt v.number m) refl (on v refl) e

alike : (a b : Bool) → (a ≡ true → b ≡ true) → (b ≡ true → a ≡ true) → a ≡ b
alike true b there back = sym (there refl)
alike false true there back = back refl
alike false false there back = refl

position_same : (p q : Session → Bool) (k : ℕ) (ss : List Session) → ((s : Session) → p s ≡ q s) → position_from p k ss ≡ position_from q k ss
position_same p q k [] h = refl
position_same p q k (s ∷ ss) h = let first = h s in let rest = position_same p q (k + 1) ss h in λ i. cond (first i) (Some k) (rest i)

pub first_free : (db : Database) (ss : List Session) → position_from (is_first_free db ss) 0 ss ≡ option_map (λ (w : FreeWait). w.session) (earliest_free db 0 ss)
first_free db ss = by (earliest_free db 0 ss) refl where
  test : (w : FreeWait) → AreLeast db 0 ss w → (o : Option ℕ) → option_map_or (λ n. none_below db n ss) o false ≡ at_most w.number o
  test w l None = refl
  test w l (Some n) = alike (none_below db n ss) (nat_le n w.number) (l.reached n) (λ h. weaker db n w.number ss (leb-true n w.number h) l.low)

  by : (o : Option FreeWait) → earliest_free db 0 ss ≡ o → position_from (is_first_free db ss) 0 ss ≡ option_map (λ (w : FreeWait). w.session) o
  by None e = none_found db 0 ss (λ n. none_below db n ss) e
  by (Some w) e = let l = least db 0 ss w e in position_same (is_first_free db ss) (λ s. at_most w.number (free_wait db s)) 0 ss (λ s. test w l (free_wait db s)) ∙ l.first
