-- One step of the search for a closing quote.
use Rattle.std.proofs.Common.{◌≡◌, ◌≢◌, ℕ, ◌+◌, ◌<◌, ◌≤◌, Bool, true, false, cond, List, ◌∷◌, length, get_or, drop, sym, refl, ap, ◌∙◌, arith, drop-cons, add-one, add-zero, add_assoc, eq-eqb}
use Rattle.std.specs.Prelude.{◌&&◌, ◌==◌}
use Rattle.std.proofs.lemmas.Bool.{ne_eqb}
use Rattle.std.proofs.lemmas.List.{drop_all}
use Rattle.iso_lexer.specs.declared.quoted.Quoted.{Quoted}
use Rattle.iso_lexer.specs.declared.quoted.Quoted.TheVariants.{Closed, Broken, Unclosed}
use Rattle.iso_lexer.specs.Quotes.{longer}
use Rattle.iso_lexer.specs.Inner.Quotes.{quoted_from}

pub longer_twice : (i k : ℕ) (q : Quoted) → longer i (longer k q) ≡ longer (i + k) q
longer_twice i k (Closed n) = ap Closed (sym (add_assoc i k n))
longer_twice i k (Broken n) = ap Broken (sym (add_assoc i k n))
longer_twice i k Unclosed = refl

module _ (mark : ℕ) (one_line : Bool) (bs : List ℕ) (i : ℕ) where
  here : (q : Bool) → i < length bs → quoted_from mark one_line q (drop i bs) ≡ quoted_from mark one_line q (get_or bs i 0 ∷ drop (i + 1) bs)
  here q lt = ap (quoted_from mark one_line q) (rw add-one (drop-cons bs i 0 lt))

  doubled : i < length bs → get_or bs i 0 ≡ mark → longer i (quoted_from mark one_line true (drop i bs)) ≡ longer (i + 1) (quoted_from mark one_line false (drop (i + 1) bs))
  unfolding quoted_from
  doubled lt is = rw (here true lt, eq-eqb (get_or bs i 0) mark is) (longer_twice i 1 (quoted_from mark one_line false (drop (i + 1) bs)))

  quote : i < length bs → get_or bs i 0 ≡ mark → longer i (quoted_from mark one_line false (drop i bs)) ≡ longer (i + 1) (quoted_from mark one_line true (drop (i + 1) bs))
  unfolding quoted_from
  quote lt is = rw (here false lt, eq-eqb (get_or bs i 0) mark is) (longer_twice i 1 (quoted_from mark one_line true (drop (i + 1) bs)))

  other : i < length bs → get_or bs i 0 ≢ mark → (one_line && get_or bs i 0 == 10) ≡ false → longer i (quoted_from mark one_line false (drop i bs)) ≡ longer (i + 1) (quoted_from mark one_line false (drop (i + 1) bs))
  unfolding quoted_from
  other lt no_quote no_line = rw (here false lt, ne_eqb (get_or bs i 0) mark no_quote, no_line) (longer_twice i 1 (quoted_from mark one_line false (drop (i + 1) bs)))

  closed : i < length bs → get_or bs i 0 ≢ mark → longer i (quoted_from mark one_line true (drop i bs)) ≡ Closed i
  unfolding quoted_from
  closed lt no_quote = rw (here true lt, ne_eqb (get_or bs i 0) mark no_quote) (ap Closed (add-zero i))

  broken : i < length bs → get_or bs i 0 ≢ mark → (one_line && get_or bs i 0 == 10) ≡ true → longer i (quoted_from mark one_line false (drop i bs)) ≡ Broken i
  unfolding quoted_from
  broken lt no_quote line = rw (here false lt, ne_eqb (get_or bs i 0) mark no_quote, line) (ap Broken (add-zero i))

  -- the same for the loop: q is the state before, and r the state behind the byte
  pub on_doubled : (q r : Bool) (whole : Quoted) → i < length bs → q ≡ true → r ≡ false → get_or bs i 0 ≡ mark → longer i (quoted_from mark one_line q (drop i bs)) ≡ whole → longer (i + 1) (quoted_from mark one_line r (drop (i + 1) bs)) ≡ whole
  on_doubled q r whole lt qe re is so_far = rw re (sym (doubled lt is) ∙ (rw qe at so_far))

  pub on_quote : (q r : Bool) (whole : Quoted) → i < length bs → q ≡ false → r ≡ true → get_or bs i 0 ≡ mark → longer i (quoted_from mark one_line q (drop i bs)) ≡ whole → longer (i + 1) (quoted_from mark one_line r (drop (i + 1) bs)) ≡ whole
  on_quote q r whole lt qe re is so_far = rw re (sym (quote lt is) ∙ (rw qe at so_far))

  pub on_other : (q r : Bool) (whole : Quoted) → i < length bs → q ≡ false → r ≡ false → get_or bs i 0 ≢ mark → (one_line && get_or bs i 0 == 10) ≡ false → longer i (quoted_from mark one_line q (drop i bs)) ≡ whole → longer (i + 1) (quoted_from mark one_line r (drop (i + 1) bs)) ≡ whole
  on_other q r whole lt qe re no_quote no_line so_far = rw re (sym (other lt no_quote no_line) ∙ (rw qe at so_far))

  pub is_closed : (q : Bool) (whole : Quoted) → i < length bs → q ≡ true → get_or bs i 0 ≢ mark → longer i (quoted_from mark one_line q (drop i bs)) ≡ whole → Closed i ≡ whole
  is_closed q whole lt qe no_quote so_far = sym (closed lt no_quote) ∙ (rw qe at so_far)

  pub is_broken : (q : Bool) (whole : Quoted) → i < length bs → q ≡ false → get_or bs i 0 ≢ mark → (one_line && get_or bs i 0 == 10) ≡ true → longer i (quoted_from mark one_line q (drop i bs)) ≡ whole → Broken i ≡ whole
  is_broken q whole lt qe no_quote line so_far = sym (broken lt no_quote line) ∙ (rw qe at so_far)

ended : (mark : ℕ) (one_line q : Bool) (bs : List ℕ) → longer (length bs) (quoted_from mark one_line q (drop (length bs) bs)) ≡ cond q (Closed (length bs)) Unclosed
unfolding quoted_from
ended mark one_line true bs = rw (drop_all (length bs) bs (omega arith)) (ap Closed (add-zero (length bs)))
ended mark one_line false bs = rw (drop_all (length bs) bs (omega arith)) refl

pub at_end : (mark : ℕ) (one_line q : Bool) (bs : List ℕ) (i : ℕ) (whole : Quoted) → length bs ≤ i → i ≤ length bs → longer i (quoted_from mark one_line q (drop i bs)) ≡ whole → cond q (Closed (length bs)) Unclosed ≡ whole
at_end mark one_line q bs i whole ge le so_far =
    let end : i ≡ length bs = omega arith in
    sym (ended mark one_line q bs) ∙ (rw end at so_far)
