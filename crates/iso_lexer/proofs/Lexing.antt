-- Reading a text by rules for its front: the loop, the one reading, and the slices.
use Rattle.std.proofs.Common.{◌≡◌, ℕ, ◌+◌, ◌-◌, ◌<◌, ◌≤◌, ◌++◌, length, drop, take, List, [], ◌∷◌, Result, Ok, Err, Bool, true, false, cond, refl, sym, ap, subst, ◌∙◌, arith, append_assoc, length-drop}
use Rattle.std.specs.Prelude.{map, slice_range}
use Rattle.std.specs.List.{AllByRecursion}
use Rattle.std.proofs.lemmas.List.{append-nil, map-append, drop-drop}
use Rattle.iso_lexer.specs.Lexing.{Front, gap, token, fault, Reads, ends, takes, fails, SpelledAt, HasToken, here, behind}
use Rattle.iso_lexer.specs.Inner.Rules.{in_front, between}
use Rattle.iso_lexer.specs.Lexing.{passes as skips}
use Rattle.iso_lexer.specs.Inner.Rules.{Shorter, Rules}
use Rattle.iso_lexer.specs.declared.fault.Fault.{Fault}
use Rattle.iso_lexer.specs.declared.fault.FaultKind.{FaultKind}
use Rattle.iso_lexer.specs.declared.token.At.{At}

pub either : {T : Type 0} (P : Front T → Type 0) (b : Bool) (x y : Front T) → (b ≡ true → P x) → (b ≡ false → P y) → P (cond b x y)
either P true x y p q = p refl
either P false x y p q = q refl

-- ---- the loop

-- whatever is read from what is left completes the tokens so far
pub record SoFar {T : Type 0} (front : List ℕ → Front T) (text : List ℕ) (tokens : List (At T)) (rest : List ℕ) : Type 0 where
  pub within : length rest ≤ length text
  pub told : (answer : Result (List (At T)) Fault) → Reads front (length text) rest answer → Reads front (length text) text (in_front tokens answer)
  pub more : HasToken front rest → HasToken front text

in_front_nothing : {T : Type 0} (answer : Result (List (At T)) Fault) → in_front [] answer ≡ answer
in_front_nothing (Ok ts) = refl
in_front_nothing (Err f) = refl

in_front_twice : {T : Type 0} (ts us : List (At T)) (answer : Result (List (At T)) Fault) → in_front ts (in_front us answer) ≡ in_front (ts ++ us) answer
in_front_twice ts us (Ok vs) = ap Ok (sym (append_assoc ts us vs))
in_front_twice ts us (Err f) = refl

pub views_push : {A T : Type 0} (view : A → T) (xs : List A) (x : A) (ys : List A) → ys ≡ xs ++ x ∷ [] → map view ys ≡ map view xs ++ view x ∷ []
views_push view xs x ys e = ap (map view) e ∙ map-append view xs (x ∷ [])

module _ {T : Type 0} (front : List ℕ → Front T) (rules : Rules front) where
  pub starts : (text : List ℕ) → SoFar front text [] text
  starts text = record { within = omega arith; told = λ answer h. rw in_front_nothing h; more = λ h. h }

  pub shorter_at : (rest : List ℕ) (f : Front T) → 0 < length rest → f ≡ front rest → Shorter (length rest) f
  shorter_at rest f lt e = rw e (rules.shorter rest lt)

  pub on_gap : (text : List ℕ) (tokens : List (At T)) (rest after : List ℕ) → 0 < length rest → gap after ≡ front rest → SoFar front text tokens rest → SoFar front text tokens after
  on_gap text tokens rest after lt e so = record {
    within = let shorter : length after < length rest = shorter_at rest (gap after) lt e in omega (arith, so.within);
    told = λ answer h. so.told answer (skips after lt (sym e) h);
    more = λ h. so.more (behind after lt (sym e) h);
  }

  pub on_token : (text : List ℕ) (tokens : List (At T)) (rest after : List ℕ) (t : T) → 0 < length rest → token t after ≡ front rest → SoFar front text tokens rest → SoFar front text (tokens ++ between (length text) rest t after ∷ []) after
  on_token text tokens rest after t lt e so = record {
    within = let shorter : length after < length rest = shorter_at rest (token t after) lt e in omega (arith, so.within);
    told = λ answer h. subst (Reads front (length text) text) (in_front_twice tokens (between (length text) rest t after ∷ []) answer) (so.told _ (takes t after (sym e) h refl));
    more = λ h. so.more (here t after (sym e));
  }

  pub has_token : (text : List ℕ) (tokens : List (At T)) (rest after : List ℕ) (t : T) → token t after ≡ front rest → SoFar front text tokens rest → HasToken front text
  has_token text tokens rest after t e so = so.more (here t after (sym e))

  pub on_fault : (text : List ℕ) (tokens : List (At T)) (rest : List ℕ) (kind : FaultKind) (n : ℕ) → fault kind n ≡ front rest → SoFar front text tokens rest → Reads front (length text) text (Err (record { kind = kind; at = length text - length rest + n }))
  on_fault text tokens rest kind n e so = so.told (Err (record { kind = kind; at = length text - length rest + n })) (fails kind n (sym e) refl)

  pub on_end : (text : List ℕ) (tokens : List (At T)) (rest : List ℕ) → rest ≡ [] → SoFar front text tokens rest → Reads front (length text) text (Ok tokens)
  on_end text tokens rest e so =
      let done : Reads front (length text) rest (Ok []) = rw e ends in
      rw append-nil at (so.told (Ok []) done)

-- ---- a text has one reading

gap_is : {T : Type 0} (a b : List ℕ) → ◌≡◌ {A = Front T} (gap a) (gap b) → a ≡ b
gap_is a b e = cc

token_is : {T : Type 0} (s t : T) (a b : List ℕ) → token s a ≡ token t b → (s ≡ t) × (a ≡ b)
token_is s t a b e = (cc, cc)

fault_is : {T : Type 0} (j k : FaultKind) (m n : ℕ) → ◌≡◌ {A = Front T} (fault j m) (fault k n) → (j ≡ k) × (m ≡ n)
fault_is j k m n e = (cc, cc)

gap_not_token : {T : Type 0} (a : List ℕ) (t : T) (b : List ℕ) → gap a ≡ token t b → ⊥
gap_not_token a t b e = cc

gap_not_fault : {T : Type 0} (a : List ℕ) (k : FaultKind) (n : ℕ) → ◌≡◌ {A = Front T} (gap a) (fault k n) → ⊥
gap_not_fault a k n e = cc

token_not_fault : {T : Type 0} (t : T) (a : List ℕ) (k : FaultKind) (n : ℕ) → token t a ≡ fault k n → ⊥
token_not_fault t a k n e = cc

pub one_reading : {T : Type 0} (front : List ℕ → Front T) (total : ℕ) (text : List ℕ) (x y : Result (List (At T)) Fault) → front [] ≡ gap [] → Reads front total text x → Reads front total text y → x ≡ y
one_reading front total text x y nil ends ends = refl
one_reading front total text x y nil ends (skips rest lt e h) = absurd (omega arith)
one_reading front total text x y nil ends (takes t rest e h is) = absurd (gap_not_token [] t rest (sym nil ∙ e))
one_reading front total text x y nil ends (fails k n e is) = absurd (gap_not_fault [] k n (sym nil ∙ e))
one_reading front total text x y nil (skips rest lt e h) ends = absurd (omega arith)
one_reading front total text x y nil (skips rest lt e h) (skips rest' lt' e' h') = one_reading front total rest x y nil h (subst (λ r. Reads front total r y) (gap_is rest' rest (sym e' ∙ e)) h')
one_reading front total text x y nil (skips rest lt e h) (takes t rest' e' h' is) = absurd (gap_not_token rest t rest' (sym e ∙ e'))
one_reading front total text x y nil (skips rest lt e h) (fails k n e' is) = absurd (gap_not_fault rest k n (sym e ∙ e'))
one_reading front total text x y nil (takes t rest e h is) ends = absurd (gap_not_token [] t rest (sym nil ∙ e))
one_reading front total text x y nil (takes t rest e h is) (skips rest' lt' e' h') = absurd (gap_not_token rest' t rest (sym e' ∙ e))
one_reading front total text x y nil (takes t rest {more = more} e h is) (takes t' rest' {more = more'} e' h' is') =
    let same = token_is t' t rest' rest (sym e' ∙ e) in
    let more_same = one_reading front total rest more more' nil h (subst (λ r. Reads front total r more') same.1 h') in
    is ∙ (λ i. in_front (between total text (sym same.0 i) (sym same.1 i) ∷ []) (more_same i)) ∙ sym is'
one_reading front total text x y nil (takes t rest e h is) (fails k n e' is') = absurd (token_not_fault t rest k n (sym e ∙ e'))
one_reading front total text x y nil (fails k n e is) ends = absurd (gap_not_fault [] k n (sym nil ∙ e))
one_reading front total text x y nil (fails k n e is) (skips rest lt e' h) = absurd (gap_not_fault rest k n (sym e' ∙ e))
one_reading front total text x y nil (fails k n e is) (takes t rest e' h is') = absurd (token_not_fault t rest k n (sym e' ∙ e))
one_reading front total text x y nil (fails k n e is) (fails k' n' e' is') =
    let same = fault_is k k' n n' (sym e ∙ e') in
    is ∙ (λ i. Err (record { kind = same.0 i; at = total - length text + same.1 i })) ∙ sym is'

-- ---- each token is a slice

-- a token is so many bytes at the front
pub record Cut {T : Type 0} (Spells : T → List ℕ → Type 0) (text : List ℕ) (t : T) (rest : List ℕ) : Type 0 where
  pub len : ℕ
  pub within : len ≤ length text
  pub after : rest ≡ drop len text
  pub spells : Spells t (take len text)

abbrev pub CutBy : {T : Type 0} → (T → List ℕ → Type 0) → List ℕ → Front T → Type 0
CutBy Spells text (gap rest) = (n : ℕ) × (n ≤ length text) × (rest ≡ drop n text)
CutBy Spells text (token t rest) = Cut Spells text t rest
CutBy Spells text (fault k n) = Unit {0}

-- where a rest of the whole stands
record Stands (whole text : List ℕ) : Type 0 where
  within : length text ≤ length whole
  is : text ≡ drop (length whole - length text) whole

moved : (whole text rest : List ℕ) (n : ℕ) → Stands whole text → n ≤ length text → rest ≡ drop n text → Stands whole rest
moved whole text rest n at le e =
    let len : length rest + n ≡ length text = omega (arith, ap length e, length-drop n text) in
    let place : (length whole - length text) + n ≡ length whole - length rest = omega (arith, at.within) in
    record {
      within = omega (arith, at.within);
      is = e ∙ ap (drop n) at.is ∙ drop-drop n (length whole - length text) whole ∙ ap (λ k. drop k whole) place;
    }

stands_whole : (text : List ℕ) → Stands text text
stands_whole text = record { within = omega arith; is = let none : 0 ≡ length text - length text = omega arith in ap (λ k. drop k text) none }

module _ {T : Type 0} (Spells : T → List ℕ → Type 0) where
  lies : (whole text rest : List ℕ) (t : T) → Stands whole text → Cut Spells text t rest → SpelledAt Spells whole (between (length whole) text t rest)
  lies whole text rest t at cut =
      let len : length rest + cut.len ≡ length text = omega (arith, ap length cut.after, length-drop cut.len text, cut.within) in
      let wide : cut.len ≡ (length whole - length rest) - (length whole - length text) = omega (arith, at.within) in
      let slice : take cut.len text ≡ slice_range whole (length whole - length text) (length whole - length rest) = (λ i. take (wide i) (at.is i)) in
      (omega arith, subst (Spells t) slice cut.spells)

  abbrev OkAll : List ℕ → Result (List (At T)) Fault → Type 0
  OkAll whole (Ok ts) = AllByRecursion (SpelledAt Spells whole) ts
  OkAll whole (Err f) = Unit {0}

  one_more : (whole : List ℕ) (t : At T) (more : Result (List (At T)) Fault) → SpelledAt Spells whole t → OkAll whole more → OkAll whole (in_front (t ∷ []) more)
  one_more whole t (Ok ts) h rest = (h, rest)
  one_more whole t (Err f) h rest = tt

  all_lie : (front : List ℕ → Front T) → ((text : List ℕ) → CutBy Spells text (front text)) → (total : ℕ) (whole text : List ℕ) (answer : Result (List (At T)) Fault) → total ≡ length whole → Stands whole text → Reads front total text answer → OkAll whole answer
  all_lie front cuts total whole text answer te at ends = tt
  all_lie front cuts total whole text answer te at (skips rest lt e h) =
      let cut = subst (CutBy Spells text) e (cuts text) in
      all_lie front cuts total whole rest answer te (moved whole text rest cut.0 at cut.1 cut.2) h
  all_lie front cuts total whole text answer te at (takes t rest {more = more} e h is) =
      let cut = subst (CutBy Spells text) e (cuts text) in
      let here : SpelledAt Spells whole (between total text t rest) = rw te (lies whole text rest t at cut) in
      subst (OkAll whole) (sym is) (one_more whole (between total text t rest) more here (all_lie front cuts total whole rest more te (moved whole text rest cut.len at cut.within cut.after) h))
  all_lie front cuts total whole text answer te at (fails kind n e is) = subst (OkAll whole) (sym is) tt

  pub reads_slices : (front : List ℕ → Front T) → ((text : List ℕ) → CutBy Spells text (front text)) → (text : List ℕ) (ts : List (At T)) → Reads front (length text) text (Ok ts) → AllByRecursion (SpelledAt Spells text) ts
  reads_slices front cuts text ts h = all_lie front cuts (length text) text text (Ok ts) refl (stands_whole text) h
