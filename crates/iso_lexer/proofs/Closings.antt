-- Where a quoted text is closed is where the code finds its end.
use Rattle.std.proofs.Common.{◌≡◌, ◌≢◌, ℕ, suc, ◌+◌, Bool, true, false, List, [], ◌∷◌, length, Option, Some, None, sym, refl, ap, ◌∙◌, arith, inl, inr, eq-eqb}
use Rattle.std.specs.Prelude.{◌&&◌, ◌==◌, ◌-◌, not, take, drop, position, option_map}
use Rattle.std.specs.List.{before_first, position_or_len}
use Rattle.std.specs.Option.{option_map_or}
use Rattle.std.proofs.lemmas.Bool.{ne_eqb, cases_eq, cases_Bool, cases_lt, le-ltb, lt-ltb}
use Rattle.std.proofs.lemmas.List.Sums.{take_while-cons}
use Rattle.iso_lexer.specs.declared.fault.FaultKind.{FaultKind}
use Rattle.iso_lexer.specs.declared.fault.FaultKind.TheVariants.{NewlineInName}
use Rattle.iso_lexer.specs.declared.quoted.Quoted.{Quoted}
use Rattle.iso_lexer.specs.declared.quoted.Quoted.TheVariants.{Closed, Broken, Unclosed}
use Rattle.iso_lexer.specs.Lexing.{token, fault}
use Rattle.iso_lexer.specs.Quotes.{longer, closing, quoted_front, how_quoted, ComputedQuotes}
use Rattle.iso_lexer.specs.Inner.Quotes.{quoted_from}
use Rattle.iso_lexer.specs.Inner.Quotes.{quoted_front as front_of}
use Rattle.iso_lexer.proofs.QuoteCases.{quotes_by_cases}

-- closed there, or else broken there, or neither
abbrev told : Option ℕ → Option ℕ → Quoted
told closed broken = option_map_or Closed closed (option_map_or Broken broken Unclosed)

longer_told : (c p : Option ℕ) → longer 1 (told c p) ≡ told (option_map suc c) (option_map suc p)
longer_told (Some n) p = let one : 1 + n ≡ suc n = omega arith in ap Closed one
longer_told None (Some n) = let one : 1 + n ≡ suc n = omega arith in ap Broken one
longer_told None None = refl

module _ (breaks : ℕ → Bool) (b : ℕ) (bs : List ℕ) where
  first_stays : breaks b ≡ false → before_first breaks (b ∷ bs) ≡ b ∷ before_first breaks bs
  first_stays h = take_while-cons (λ x. not (breaks x)) b bs ∙ rw h refl

  first_breaks : breaks b ≡ true → before_first breaks (b ∷ bs) ≡ []
  first_breaks h = take_while-cons (λ x. not (breaks x)) b bs ∙ rw h refl

  position_breaks : breaks b ≡ true → position breaks (b ∷ bs) ≡ Some 0
  position_breaks h = rw (h, lt-ltb 0 (suc (length bs)) (omega arith)) refl

  position_stays : breaks b ≡ false → position breaks (b ∷ bs) ≡ option_map suc (position breaks bs)
  position_stays h =
      let n = position_or_len breaks bs in
      let one : 1 + n ≡ suc n = omega arith in
      elim (cases_lt n (length bs)) [
        | inl lt ↦ rw (h, one, lt-ltb n (length bs) lt, lt-ltb (suc n) (suc (length bs)) (omega arith)) refl
        | inr le ↦ rw (h, one, le-ltb n (length bs) le, le-ltb (suc n) (suc (length bs)) (omega arith)) refl
      ]

-- in a text that is broken by such bytes, the mark none of them
module _ (mark : ℕ) (one_line : Bool) (breaks : ℕ → Bool) (test : (b : ℕ) → b ≢ mark → (one_line && b == 10) ≡ breaks b) (no_mark : breaks mark ≡ false) where
  pub ends_are : (alone : Bool) (text : List ℕ) → quoted_from mark one_line alone text ≡ told (closing mark alone (before_first breaks text)) (position breaks text)
  unfolding quoted_from closing
  ends_are true [] = refl
  ends_are false [] = refl
  ends_are true (b ∷ bs) =
      elim (cases_eq b mark) [
        | inl is ↦
            let stays : breaks b ≡ false = ap breaks is ∙ no_mark in
            rw (first_stays breaks b bs stays, position_stays breaks b bs stays, eq-eqb b mark is, ends_are false bs) (longer_told (closing mark false (before_first breaks bs)) (position breaks bs))
        | inr ne ↦
            elim (cases_Bool (breaks b)) [
              | inl h ↦ rw (first_breaks breaks b bs h, ne_eqb b mark ne) refl
              | inr h ↦ rw (first_stays breaks b bs h, ne_eqb b mark ne) refl
            ]
      ]
  ends_are false (b ∷ bs) =
      elim (cases_eq b mark) [
        | inl is ↦
            let stays : breaks b ≡ false = ap breaks is ∙ no_mark in
            rw (first_stays breaks b bs stays, position_stays breaks b bs stays, eq-eqb b mark is, ends_are true bs) (longer_told (closing mark true (before_first breaks bs)) (position breaks bs))
        | inr ne ↦
            elim (cases_Bool (breaks b)) [
              | inl h ↦ rw (first_breaks breaks b bs h, position_breaks breaks b bs h, ne_eqb b mark ne, test b ne, h) refl
              | inr h ↦
                  rw (first_stays breaks b bs h, position_stays breaks b bs h, ne_eqb b mark ne, test b ne, h, ends_are false bs) (longer_told (closing mark false (before_first breaks bs)) (position breaks bs))
            ]
      ]

-- where nothing breaks it
free_longer : (c : Option ℕ) → longer 1 (option_map_or Closed c Unclosed) ≡ option_map_or Closed (option_map suc c) Unclosed
free_longer (Some n) = let one : 1 + n ≡ suc n = omega arith in ap Closed one
free_longer None = refl

free : (mark : ℕ) (alone : Bool) (text : List ℕ) → quoted_from mark false alone text ≡ option_map_or Closed (closing mark alone text) Unclosed
unfolding quoted_from closing
free mark true [] = refl
free mark false [] = refl
free mark true (b ∷ bs) =
    elim (cases_eq b mark) [
      | inl is ↦ rw (eq-eqb b mark is, free mark false bs) (free_longer (closing mark false bs))
      | inr ne ↦ rw (ne_eqb b mark ne) refl
    ]
free mark false (b ∷ bs) =
    elim (cases_eq b mark) [
      | inl is ↦ rw (eq-eqb b mark is, free mark true bs) (free_longer (closing mark true bs))
      | inr ne ↦ rw (ne_eqb b mark ne, free mark false bs) (free_longer (closing mark false bs))
    ]

-- ---- the tokens made of it

module _ {T : Type 0} (make : List ℕ → T) (unclosed : FaultKind) (bs : List ℕ) where
  of_closing : (c : Option ℕ) → option_map_or (λ n. token (make (take (n - 1) bs)) (drop n bs)) c (fault unclosed 0) ≡ front_of make unclosed (option_map_or Closed c Unclosed) bs
  of_closing (Some n) = refl
  of_closing None = refl

  pub free_front : (mark : ℕ) → quoted_front mark make bs bs (fault unclosed 0) ≡ front_of make unclosed (quoted_from mark false false bs) bs
  free_front mark = of_closing (closing mark false bs) ∙ ap (λ q. front_of make unclosed q bs) (sym (free mark false bs))

  of_told : (c p : Option ℕ) → option_map_or (λ n. token (make (take (n - 1) bs)) (drop n bs)) c (option_map_or (λ n. fault NewlineInName (n + 1)) p (fault unclosed 0)) ≡ front_of make unclosed (told c p) bs
  of_told (Some n) p = refl
  of_told None (Some n) = refl
  of_told None None = refl

  pub line_front : quoted_front 34 make (before_first (λ c. c == 10) bs) bs (option_map_or (λ n. fault NewlineInName (n + 1)) (position (λ c. c == 10) bs) (fault unclosed 0))
      ≡ front_of make unclosed (quoted_from 34 true false bs) bs
  line_front =
      of_told (closing 34 false (before_first (λ c. c == 10) bs)) (position (λ c. c == 10) bs)
      ∙ ap (λ q. front_of make unclosed q bs) (sym (ends_are 34 true (λ c. c == 10) (λ b ne. refl) refl false bs))

-- ---- the cases

and_true : (x : Bool) → x ≡ (x && true)
and_true true = refl
and_true false = refl

and_false : (x : Bool) → (x && false) ≡ false
and_false true = refl
and_false false = refl

breaks_alike : (mark : ℕ) (one_line : Bool) (b : ℕ) → b ≢ mark → (one_line && b == 10) ≡ (one_line && (b == 10 && not (b == mark)))
breaks_alike mark true b ne = rw (ne_eqb b mark ne) (and_true (b == 10))
breaks_alike mark false b ne = refl

no_break : (mark : ℕ) (one_line : Bool) → (one_line && (mark == 10 && not (mark == mark))) ≡ false
no_break mark true = rw (eq-eqb mark mark refl) (and_false (mark == 10))
no_break mark false = refl

pub computed_quotes : ComputedQuotes
computed_quotes mark one_line text end =
    let same : quoted_from mark one_line false text ≡ how_quoted mark one_line text = ends_are mark one_line (λ b. one_line && (b == 10 && not (b == mark))) (breaks_alike mark one_line) (no_break mark one_line) false text in
    let cases = quotes_by_cases mark one_line text end in
    (λ g. sym same ∙ cases.0 g, λ e. cases.1 (same ∙ e))
