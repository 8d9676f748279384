-- Bytes that go out piece by piece.
use Rattle.std.proofs.Common.{◌≡◌, ℕ, zero, suc, ◌+◌, ◌<◌, ◌≤◌, true, false, eqb, List, [], ◌∷◌, ◌++◌, length, get_or, take, drop, min, Option, Some, None, Result, Ok, Err, refl, sym, ap, subst, ◌∙◌, arith, append_assoc, append-nil, add-one, eq-eqb, drop-cons, drop_of_length-le, map}
use Rattle.std.specs.Prelude.{OnOk}
use Rattle.std.specs.Io.KnownBytes.{Appends, Keeps}
use Rattle.memchr.specs.Find.{IsFirstByte, is_byte}
use Rattle.iso_lexer.specs.Devices.{PutsFront}
use Rattle.iso_lexer.specs.Names.{unquoted}
use Rattle.iso_lexer.proofs.SpecFronts.{first_some, before_first, never}

pub appends_more : (a b c : Option (List ℕ)) (bs cs : List ℕ) → Appends a b bs → Appends b c cs → Appends a c (bs ++ cs)
appends_more None b c bs cs p q = tt
appends_more (Some x) None c bs cs p q = absurd p
appends_more (Some x) (Some y) None bs cs p q = absurd q
appends_more (Some x) (Some y) (Some z) bs cs p q = q ∙ ap (λ l. l ++ cs) p ∙ append_assoc x bs cs

pub kept_nothing : (a b : Option (List ℕ)) → Keeps a b → Appends a b []
kept_nothing None b kept = tt
kept_nothing (Some x) None kept = absurd kept
kept_nothing (Some x) (Some y) kept = kept ∙ sym (append-nil x)

-- what has gone out of the whole, and what is left of it
pub record Gone (old now : Option (List ℕ)) (left whole : List ℕ) : Type 0 where
  pub front : List ℕ
  pub begins : whole ≡ front ++ left
  pub went_out : Appends old now front

pub none_gone : (a : Option (List ℕ)) (text : List ℕ) → Gone a a text text
none_gone None text = record { front = []; begins = refl; went_out = tt }
none_gone (Some x) text = record { front = []; begins = refl; went_out = sym (append-nil x) }

pub next_gone : (old now then : Option (List ℕ)) (piece left more whole : List ℕ) → Gone old now left whole → Appends now then piece → left ≡ piece ++ more → Gone old then more whole
next_gone old now then piece left more whole g put e = record {
  front = g.front ++ piece;
  begins = g.begins ∙ ap (λ l. g.front ++ l) e ∙ sym (append_assoc g.front piece more);
  went_out = appends_more old now then g.front piece g.went_out put;
}

pub all_gone : (old now end : Option (List ℕ)) (left whole : List ℕ) → Gone old now left whole → Appends now end left → Appends old end whole
all_gone old now end left whole g put = subst (Appends old end) (sym g.begins) (appends_more old now end g.front left g.went_out put)

-- a front of what was left, and so of the whole
pub front_gone : (old now end : Option (List ℕ)) (left whole : List ℕ) → Gone old now left whole → PutsFront now end left → PutsFront old end whole
front_gone old now end left whole g p = record {
  front = g.front ++ p.front;
  rest = p.rest;
  begins = g.begins ∙ ap (λ l. g.front ++ l) p.begins ∙ sym (append_assoc g.front p.front p.rest);
  went_out = appends_more old now end g.front p.front g.went_out p.went_out;
}

-- a front of the first piece of a text
pub front_of_piece : (a b : Option (List ℕ)) (piece more text : List ℕ) → text ≡ piece ++ more → PutsFront a b piece → PutsFront a b text
front_of_piece a b piece more text e p = record {
  front = p.front;
  rest = p.rest ++ more;
  begins = e ∙ ap (λ l. l ++ more) p.begins ∙ append_assoc p.front p.rest more;
  went_out = p.went_out;
}

pub gone_front : (old now : Option (List ℕ)) (left whole : List ℕ) → Gone old now left whole → PutsFront old now whole
gone_front old now left whole g = record { front = g.front; rest = left; begins = g.begins; went_out = g.went_out }

pub whole_front : (a b : Option (List ℕ)) (text : List ℕ) → Appends a b text → PutsFront a b text
whole_front a b text put = record { front = text; rest = []; begins = sym (append-nil text); went_out = put }

pub nothing_put : (a : Option (List ℕ)) (text : List ℕ) → PutsFront a a text
nothing_put a text = gone_front a a text text (none_gone a text)

pub on_ok : {A E P Q : Type 0} (r : Result A E) → OnOk r P → (P → Q) → OnOk r Q
on_ok (Ok x) h f = f h
on_ok (Err e) h f = h

-- ---- byte by byte

pub next_byte : (f : ℕ → ℕ) (bs : List ℕ) (i b : ℕ) → i < length bs → b ≡ f (get_or bs i 0) → map f (drop i bs) ≡ (b ∷ []) ++ map f (drop (i + 1) bs)
next_byte f bs i b lt e = ap (map f) (drop-cons bs i 0 lt) ∙ rw (add-one, e) refl

pub no_more : (f : ℕ → ℕ) (bs : List ℕ) (i : ℕ) → length bs ≤ i → map f (drop i bs) ≡ []
no_more f bs i le = ap (map f) (drop_of_length-le bs le)

-- ---- quotes

without_quote : (bs : List ℕ) → ((k : ℕ) → k < length bs → eqb (get_or bs k 0) 34 ≡ false) → unquoted bs ≡ bs
unfolding unquoted
without_quote [] none = refl
without_quote (b ∷ []) none = refl
without_quote (b ∷ c ∷ bs) none = rw (none 0 (omega arith)) (ap (λ x. b ∷ x) (without_quote (c ∷ bs) (λ k lt. none (suc k) (omega arith))))

to_quote : (bs : List ℕ) (n : ℕ) → n < length bs → eqb (get_or bs n 0) 34 ≡ true → ((k : ℕ) → k < n → eqb (get_or bs k 0) 34 ≡ false) → unquoted bs ≡ take (suc n) bs ++ unquoted (drop (suc (suc n)) bs)
unfolding unquoted
to_quote [] n lt is none = absurd (omega arith)
to_quote (b ∷ []) zero lt is none = refl
to_quote (b ∷ []) (suc n) lt is none = absurd (omega arith)
to_quote (b ∷ c ∷ bs) zero lt is none = rw is refl
to_quote (b ∷ c ∷ bs) (suc n) lt is none = rw (none 0 (omega arith)) (ap (λ x. b ∷ x) (to_quote (c ∷ bs) n (omega arith) is (λ k lt'. none (suc k) (omega arith))))

pub no_more_quotes : (bs : List ℕ) → IsFirstByte (is_byte 34) bs None → bs ≡ unquoted bs
no_more_quotes bs h = sym (without_quote bs (never 34 bs h))

behind_quote : (bs : List ℕ) (n k : ℕ) → k ≡ min (length (drop n bs)) 1 → drop k (drop n bs) ≡ drop (suc n) bs
behind_quote [] zero k e = rw e refl
behind_quote [] (suc n) k e = rw e refl
behind_quote (b ∷ bs) zero k e = let one : k ≡ 1 = omega (arith, e) in rw one refl
behind_quote (b ∷ bs) (suc n) k e = behind_quote bs n k e

pub up_to_quote : (bs piece behind more : List ℕ) (n k : ℕ) → IsFirstByte (is_byte 34) bs (Some n) → piece ≡ take (n + 1) bs → behind ≡ drop (n + 1) bs → k ≡ min (length behind) 1 → more ≡ drop k behind → unquoted bs ≡ piece ++ unquoted more
up_to_quote bs piece behind more n k h pe be ke me =
    let at = first_some 34 bs n h in
    let rest : more ≡ drop (suc (suc n)) bs = me ∙ ap (drop k) be ∙ behind_quote bs (n + 1) k (ke ∙ ap (λ x. min (length x) 1) be) ∙ rw add-one refl in
    let front : piece ≡ take (suc n) bs = pe ∙ rw add-one refl in
    rw (front, rest) (to_quote bs n at.lt (eq-eqb (get_or bs n 0) 34 at.is) (before_first 34 bs n h))
