-- Where a quoted name or string ends, and the cases by which it goes on.
use Rattle.std.proofs.Common.{◌≡◌, ℕ, suc, zero, ◌+◌, ◌-◌, ◌<◌, ◌≤◌, Bool, true, false, eqb, List, [], ◌∷◌, ◌++◌, length, get_or, take, sym, refl, ap, subst, ◌∙◌, arith, inl, inr, eq-eqb, IsUtf8, length-drop}
use Rattle.std.specs.Prelude.{◌&&◌}
use Rattle.std.specs.Str.{IsCharBoundary}
use Rattle.std.proofs.Math.Seq.{take-suc}
use Rattle.std.proofs.lemmas.Bool.{ne_eqb, cases_eq, cases_Bool}
use Rattle.std.proofs.lemmas.Str.{IsCharBoundary-after_ascii, IsCharBoundary-before_ascii}
use Rattle.iso_lexer.specs.declared.fault.FaultKind.{FaultKind}
use Rattle.iso_lexer.specs.declared.quoted.Quoted.{Quoted}
use Rattle.iso_lexer.specs.declared.quoted.Quoted.TheVariants.{Closed, Broken, Unclosed}
use Rattle.iso_lexer.specs.Lexing.{Front, gap, token, fault}
use Rattle.iso_lexer.specs.Quotes.{longer}
use Rattle.iso_lexer.specs.Inner.Quotes.{quoted_from, quoted_front}
use Rattle.iso_lexer.specs.Inner.Rules.{Shorter}
use Rattle.iso_lexer.proofs.Lexing.{CutBy}

longer_closed : (q : Quoted) (n : ℕ) → longer 1 q ≡ Closed n → (k : ℕ) × (q ≡ Closed k) × (n ≡ suc k)
longer_closed (Closed k) n e = let same : 1 + k ≡ n = cc in (k, refl, omega arith)
longer_closed (Broken k) n e = absurd cc
longer_closed Unclosed n e = absurd cc

closed_is : (k n : ℕ) → Closed k ≡ Closed n → k ≡ n
closed_is k n e = cc

no_break : (n : ℕ) → Broken 0 ≡ Closed n → ⊥
no_break n e = cc

behind : (mark b : ℕ) (bs : List ℕ) (k : ℕ) → 0 < k → get_or bs (k - 1) 0 ≡ mark → get_or (b ∷ bs) k 0 ≡ mark
behind mark b bs zero lt e = absurd (omega arith)
behind mark b bs (suc k) lt e = let same : suc k - 1 ≡ k = omega arith in rw same at e

-- the quote that closes; behind a quote it may be that one
abbrev pub ClosedIn : ℕ → Bool → List ℕ → ℕ → Type 0
ClosedIn mark false bs n = (0 < n) × (n ≤ length bs) × (get_or bs (n - 1) 0 ≡ mark)
ClosedIn mark true bs n = (n ≤ length bs) × (get_or (mark ∷ bs) n 0 ≡ mark)

by_quote : (mark b : ℕ) (bs : List ℕ) (k n : ℕ) → n ≡ suc k → k ≤ length bs → get_or (mark ∷ bs) k 0 ≡ mark → b ≡ mark → ClosedIn mark false (b ∷ bs) n
by_quote mark b bs k n e le at is =
    let same : n - 1 ≡ k = omega arith in
    (omega arith, omega arith, rw same (subst (λ c. get_or (c ∷ bs) k 0 ≡ mark) (sym is) at))

by_letter : (mark b : ℕ) (bs : List ℕ) (k n : ℕ) → n ≡ suc k → 0 < k → k ≤ length bs → get_or bs (k - 1) 0 ≡ mark → ClosedIn mark false (b ∷ bs) n
by_letter mark b bs k n e lt le at =
    let same : n - 1 ≡ k = omega arith in
    (omega arith, omega arith, rw same (behind mark b bs k lt at))

by_doubled : (mark b : ℕ) (bs : List ℕ) (k n : ℕ) → n ≡ suc k → 0 < k → k ≤ length bs → get_or bs (k - 1) 0 ≡ mark → ClosedIn mark true (b ∷ bs) n
by_doubled mark b bs k n e lt le at = (omega arith, rw e (behind mark b bs k lt at))

pub closes : (mark : ℕ) (one_line q : Bool) (bs : List ℕ) (n : ℕ) → quoted_from mark one_line q bs ≡ Closed n → ClosedIn mark q bs n
unfolding quoted_from
closes mark one_line false [] n e = absurd cc
closes mark one_line true [] n e = let zero_is : 0 ≡ n = cc in subst (λ k. ClosedIn mark true [] k) zero_is (omega arith, refl)
closes mark one_line false (b ∷ bs) n e =
    elim (cases_eq b mark) [
      | inl is ↦
          let k = longer_closed (quoted_from mark one_line true bs) n (rw (eq-eqb b mark is) at e) in
          let h = closes mark one_line true bs k.0 k.1 in
          by_quote mark b bs k.0 n k.2 h.0 h.1 is
      | inr other ↦
          elim (cases_Bool (one_line && eqb b 10)) [
            | inl line ↦ absurd (no_break n (rw (ne_eqb b mark other, line) at e))
            | inr letter ↦
                let k = longer_closed (quoted_from mark one_line false bs) n (rw (ne_eqb b mark other, letter) at e) in
                let h = closes mark one_line false bs k.0 k.1 in
                by_letter mark b bs k.0 n k.2 h.0 h.1 h.2
          ]
    ]
closes mark one_line true (b ∷ bs) n e =
    elim (cases_eq b mark) [
      | inl is ↦
          let k = longer_closed (quoted_from mark one_line false bs) n (rw (eq-eqb b mark is) at e) in
          let h = closes mark one_line false bs k.0 k.1 in
          by_doubled mark b bs k.0 n k.2 h.0 h.1 h.2
      | inr other ↦
          let none : 0 ≡ n = closed_is 0 n (rw (ne_eqb b mark other) at e) in
          subst (λ k. ClosedIn mark true (b ∷ bs) k) none (omega arith, refl)
    ]

longer_broken : (q : Quoted) (n : ℕ) → longer 1 q ≡ Broken n → (k : ℕ) × (q ≡ Broken k) × (n ≡ suc k)
longer_broken (Broken k) n e = let same : 1 + k ≡ n = cc in (k, refl, omega arith)
longer_broken (Closed k) n e = absurd cc
longer_broken Unclosed n e = absurd cc

broken_is : (k n : ℕ) → Broken k ≡ Broken n → k ≡ n
broken_is k n e = cc

no_close : (n : ℕ) → Closed 0 ≡ Broken n → ⊥
no_close n e = cc

pub breaks : (mark : ℕ) (one_line q : Bool) (bs : List ℕ) (n : ℕ) → quoted_from mark one_line q bs ≡ Broken n → n < length bs
unfolding quoted_from
breaks mark one_line false [] n e = absurd cc
breaks mark one_line true [] n e = absurd cc
breaks mark one_line false (b ∷ bs) n e =
    elim (cases_eq b mark) [
      | inl is ↦
          let k = longer_broken (quoted_from mark one_line true bs) n (rw (eq-eqb b mark is) at e) in
          omega (arith, k.2, breaks mark one_line true bs k.0 k.1)
      | inr other ↦
          elim (cases_Bool (one_line && eqb b 10)) [
            | inl line ↦ omega (arith, broken_is 0 n (rw (ne_eqb b mark other, line) at e))
            | inr letter ↦
                let k = longer_broken (quoted_from mark one_line false bs) n (rw (ne_eqb b mark other, letter) at e) in
                omega (arith, k.2, breaks mark one_line false bs k.0 k.1)
          ]
    ]
breaks mark one_line true (b ∷ bs) n e =
    elim (cases_eq b mark) [
      | inl is ↦
          let k = longer_broken (quoted_from mark one_line false bs) n (rw (eq-eqb b mark is) at e) in
          omega (arith, k.2, breaks mark one_line false bs k.0 k.1)
      | inr other ↦ absurd (no_close n (rw (ne_eqb b mark other) at e))
    ]

pub broken_within : (mark : ℕ) (one_line : Bool) (bs xs : List ℕ) (n : ℕ) → xs ≡ bs → Broken n ≡ quoted_from mark one_line false xs → n < length bs
broken_within mark one_line bs xs n same e = breaks mark one_line false bs n (rw same at (sym e))

pub record Closing (bs : List ℕ) (n : ℕ) : Type 0 where
  pub some : 0 < n
  pub behind : IsCharBoundary bs n
  pub before : IsCharBoundary bs (n - 1)

pub closed_boundary : (mark : ℕ) (one_line : Bool) (bs xs : List ℕ) (n : ℕ) → mark < 128 → IsUtf8 bs → xs ≡ bs → Closed n ≡ quoted_from mark one_line false xs → Closing bs n
closed_boundary mark one_line bs xs n ascii utf8 same e =
    let h = closes mark one_line false bs n (rw same at (sym e)) in
    let back : n - 1 + 1 ≡ n = omega (arith, h.0) in
    let lt : n - 1 < length bs = omega (arith, h.0, h.1) in
    let small : get_or bs (n - 1) 0 < 128 = omega (arith, h.2) in
    record { some = h.0; behind = subst (IsCharBoundary bs) back (IsCharBoundary-after_ascii bs (n - 1) utf8 lt small); before = IsCharBoundary-before_ascii bs (n - 1) lt small }

-- ---- the rule

pub quoted_shorter : {T : Type 0} (make : List ℕ → T) (mark : ℕ) (one_line : Bool) (unclosed : FaultKind) (q : Quoted) (bs : List ℕ) → q ≡ quoted_from mark one_line false bs → Shorter (suc (length bs)) (quoted_front make unclosed q bs)
quoted_shorter make mark one_line unclosed (Closed n) bs e = omega (arith, length-drop n bs)
quoted_shorter make mark one_line unclosed (Broken n) bs e = omega (arith, breaks mark one_line false bs n (sym e))
quoted_shorter make mark one_line unclosed Unclosed bs e = omega arith

pub quoted_cut : {T : Type 0} (Spells : T → List ℕ → Type 0) (make : List ℕ → T) (mark : ℕ) (one_line : Bool) (unclosed : FaultKind) (b : ℕ) (bs : List ℕ) (q : Quoted) → ((w : List ℕ) → Spells (make w) (mark ∷ (w ++ mark ∷ []))) → b ≡ mark → q ≡ quoted_from mark one_line false bs → CutBy Spells (b ∷ bs) (quoted_front make unclosed q bs)
quoted_cut Spells make mark one_line unclosed b bs Unclosed spells is e = tt
quoted_cut Spells make mark one_line unclosed b bs (Broken n) spells is e = tt
quoted_cut Spells make mark one_line unclosed b bs (Closed n) spells is e =
    let h = closes mark one_line false bs n (sym e) in
    let pred : n ≡ suc (n - 1) = omega (arith, h.0) in
    let last : take n bs ≡ take (n - 1) bs ++ mark ∷ [] = ap (λ k. take k bs) pred ∙ take-suc bs (n - 1) 0 (omega (arith, h.0, h.1)) ∙ ap (λ c. take (n - 1) bs ++ c ∷ []) h.2 in
    let written : mark ∷ (take (n - 1) bs ++ mark ∷ []) ≡ b ∷ take n bs = (λ i. sym is i ∷ sym last i) in
    record { len = suc n; within = omega (arith, h.1); after = refl; spells = subst (Spells (make (take (n - 1) bs))) written (spells (take (n - 1) bs)) }

-- the same with another token made of its token
abbrev pub made : {A B : Type 0} → (A → B) → Front A → Front B
made make (gap rest) = gap rest
made make (token t rest) = token (make t) rest
made make (fault kind n) = fault kind n

-- a front that holds the text between the quotes holds what is made of it
pub made_of_quoted : {T : Type 0} (make : List ℕ → T) (unclosed : FaultKind) (q : Quoted) (bs : List ℕ) (f : Front (List ℕ)) → f ≡ quoted_front (λ s. s) unclosed q bs → made make f ≡ quoted_front make unclosed q bs
made_of_quoted make unclosed (Closed n) bs f e = ap (made make) e
made_of_quoted make unclosed (Broken n) bs f e = ap (made make) e
made_of_quoted make unclosed Unclosed bs f e = ap (made make) e
