-- A quoted name or string goes on by cases, as it is computed.
use Rattle.std.proofs.Common.{◌≡◌, ◌≢◌, ℕ, Bool, true, false, cond, List, [], ◌∷◌, sym, refl, ap, subst, ◌∙◌, inl, inr, eq-eqb}
use Rattle.std.specs.Prelude.{◌&&◌, ◌==◌, ◌↔◌}
use Rattle.std.proofs.lemmas.Bool.{ne_eqb, cases_eq, cases_Bool, eqb-true, false≢true}
use Rattle.iso_lexer.specs.declared.quoted.Quoted.{Quoted}
use Rattle.iso_lexer.specs.declared.quoted.Quoted.TheVariants.{Closed, Broken, Unclosed}
use Rattle.iso_lexer.specs.Quotes.{longer, QuoteGoesOn, runs_out, doubled, closes, breaks, goes_on}
use Rattle.iso_lexer.specs.Inner.Quotes.{quoted_from}
use Rattle.iso_lexer.proofs.Quotes.{longer_twice}

module _ (mark : ℕ) (one_line : Bool) where
  -- what is computed, case by case
  of_doubled : (rest : List ℕ) → quoted_from mark one_line false (mark ∷ mark ∷ rest) ≡ longer 2 (quoted_from mark one_line false rest)
  unfolding quoted_from
  of_doubled rest = rw (eq-eqb mark mark refl) (longer_twice 1 1 (quoted_from mark one_line false rest))

  alone : (rest : List ℕ) → ((more : List ℕ) → rest ≢ mark ∷ more) → quoted_from mark one_line true rest ≡ Closed 0
  unfolding quoted_from
  alone [] single = refl
  alone (b ∷ bs) single = rw (ne_eqb b mark (λ e. single bs (ap (λ x. x ∷ bs) e))) refl

  of_closed : (rest : List ℕ) → ((more : List ℕ) → rest ≢ mark ∷ more) → quoted_from mark one_line false (mark ∷ rest) ≡ Closed 1
  unfolding quoted_from
  of_closed rest single = rw (eq-eqb mark mark refl, alone rest single) refl

  of_other : (b : ℕ) (rest : List ℕ) → b ≢ mark → quoted_from mark one_line false (b ∷ rest) ≡ cond (one_line && b == 10) (Broken 0) (longer 1 (quoted_from mark one_line false rest))
  unfolding quoted_from
  of_other b rest ne = rw (ne_eqb b mark ne) refl

  of_nothing : quoted_from mark one_line false [] ≡ Unclosed
  unfolding quoted_from
  of_nothing = refl

  stays : (o : Bool) (b : ℕ) → (o ≡ true → b ≢ 10) → (o && b == 10) ≡ false
  stays true b h = ne_eqb b 10 (h refl)
  stays false b h = refl

  leaves : (o : Bool) (b : ℕ) → (o && b == 10) ≡ true → (o ≡ true) × (b ≡ 10)
  leaves true b h = (refl, eqb-true b 10 h)
  leaves false b h = absurd cc

  remains : (o : Bool) (b : ℕ) → (o && b == 10) ≡ false → o ≡ true → b ≢ 10
  remains o b h is e =
      let bad : true ≡ false = rw (is, eq-eqb b 10 e) at h in
      false≢true (sym bad)

  pub computed : (text : List ℕ) (end : Quoted) → QuoteGoesOn mark one_line text end → quoted_from mark one_line false text ≡ end
  computed text end runs_out = of_nothing
  computed text end (doubled {rest = rest} {more = more} e g is) = ap (quoted_from mark one_line false) e ∙ of_doubled rest ∙ ap (longer 2) (computed rest more g) ∙ sym is
  computed text end (closes {rest = rest} e single is) = ap (quoted_from mark one_line false) e ∙ of_closed rest single ∙ sym is
  computed text end (breaks {rest = rest} e ne one is) = ap (quoted_from mark one_line false) e ∙ of_other 10 rest (λ h. ne (sym h)) ∙ rw one (sym is)
  computed text end (goes_on {rest = rest} {b = b} {more = more} e ne line g is) = ap (quoted_from mark one_line false) e ∙ of_other b rest ne ∙ rw (stays one_line b line, computed rest more g) (sym is)

  other : (b : ℕ) (rest : List ℕ) → b ≢ mark → QuoteGoesOn mark one_line rest (quoted_from mark one_line false rest) → QuoteGoesOn mark one_line (b ∷ rest) (quoted_from mark one_line false (b ∷ rest))
  other b rest ne g =
      elim (cases_Bool (one_line && b == 10)) [
        | inl line ↦
            let parts = leaves one_line b line in
            breaks (ap (λ x. x ∷ rest) parts.1) (λ e. ne (parts.1 ∙ sym e)) parts.0 (of_other b rest ne ∙ rw line refl)
        | inr letter ↦ goes_on refl ne (remains one_line b letter) g (of_other b rest ne ∙ rw letter refl)
      ]

  quote : (b : ℕ) (rest : List ℕ) → b ≡ mark → ((more : List ℕ) → rest ≢ mark ∷ more) → QuoteGoesOn mark one_line (b ∷ rest) (quoted_from mark one_line false (b ∷ rest))
  quote b rest is single = closes (ap (λ x. x ∷ rest) is) single (ap (λ x. quoted_from mark one_line false (x ∷ rest)) is ∙ of_closed rest single)

  two : (b c : ℕ) (rest : List ℕ) → b ≡ mark → c ≡ mark → QuoteGoesOn mark one_line rest (quoted_from mark one_line false rest) → QuoteGoesOn mark one_line (b ∷ c ∷ rest) (quoted_from mark one_line false (b ∷ c ∷ rest))
  two b c rest is also g =
      let same : b ∷ c ∷ rest ≡ mark ∷ mark ∷ rest = (λ i. is i ∷ also i ∷ rest) in
      doubled same g (ap (quoted_from mark one_line false) same ∙ of_doubled rest)

  first_is : (b c : ℕ) (bs cs : List ℕ) → b ∷ bs ≡ c ∷ cs → b ≡ c
  first_is b c bs cs e = cc

  pub goes : (text : List ℕ) → QuoteGoesOn mark one_line text (quoted_from mark one_line false text)
  goes [] = rw of_nothing runs_out
  goes (b ∷ []) =
      elim (cases_eq b mark) [
        | inl is ↦ quote b [] is (λ more e. absurd cc)
        | inr ne ↦ other b [] ne (goes [])
      ]
  goes (b ∷ c ∷ bs) =
      elim (cases_eq b mark) [
        | inl is ↦
            elim (cases_eq c mark) [
              | inl also ↦ two b c bs is also (goes bs)
              | inr ne ↦ quote b (c ∷ bs) is (λ more e. ne (first_is c mark bs more e))
            ]
        | inr ne ↦ other b (c ∷ bs) ne (goes (c ∷ bs))
      ]

pub quotes_by_cases : (mark : ℕ) (one_line : Bool) (text : List ℕ) (end : Quoted) → QuoteGoesOn mark one_line text end ↔ (quoted_from mark one_line false text ≡ end)
quotes_by_cases mark one_line text end = (computed mark one_line text end, λ e. subst (QuoteGoesOn mark one_line text) e (goes mark one_line text))
