-- A comment ends by cases, as it is computed.
use Rattle.std.proofs.Common.{◌≡◌, ◌≢◌, ℕ, zero, suc, ◌+◌, ◌-◌, ◌<◌, ◌≤◌, true, false, cond, List, [], ◌∷◌, length, drop, Option, Some, None, sym, refl, ap, ◌∙◌, inl, inr, eq-eqb, arith, length-drop, get_or, drop-cons, add-one}
use Rattle.std.specs.Prelude.{◌&&◌, ◌==◌}
use Rattle.std.proofs.lemmas.Bool.{ne_eqb, cases_Bool, and_parts, eqb-true, false≢true}
use Rattle.std.proofs.lemmas.List.{drop-drop}
use Rattle.iso_lexer.specs.Comments.{Comment, ends, nests, goes_on, after_comment, ComputedComments}

some_is : (a b : List ℕ) → Some a ≡ Some b → a ≡ b
some_is a b e = cc

nothing_is : (b : List ℕ) → None ≡ Some b → ⊥
nothing_is b e = cc

-- ---- from the cases to what is computed

no_pair : (b c x y : ℕ) (bs : List ℕ) → ((cs : List ℕ) → b ∷ c ∷ bs ≢ x ∷ y ∷ cs) → (b == x && c == y) ≡ false
no_pair b c x y bs h =
    elim (cases_Bool (b == x && c == y)) [
      | inl both ↦
          let parts = and_parts (b == x) (c == y) both in
          absurd (h bs (λ i. eqb-true b x parts.0 i ∷ eqb-true c y parts.1 i ∷ bs))
      | inr none ↦ none
    ]

of_pair : (d b c : ℕ) (bs : List ℕ) → after_comment d (b ∷ c ∷ bs) ≡ cond (b == 42 && c == 47) (cond (d == 0) (Some bs) (after_comment (d - 1) bs)) (cond (b == 47 && c == 42) (after_comment (suc d) bs) (after_comment d (c ∷ bs)))
unfolding after_comment
of_pair d b c bs = refl

of_end : (d : ℕ) (bs : List ℕ) → after_comment d (42 ∷ 47 ∷ bs) ≡ cond (d == 0) (Some bs) (after_comment (d - 1) bs)
unfolding after_comment
of_end d bs = refl

of_opening : (d : ℕ) (bs : List ℕ) → after_comment d (47 ∷ 42 ∷ bs) ≡ after_comment (suc d) bs
unfolding after_comment
of_opening d bs = refl

of_other : (d b : ℕ) (more : List ℕ) → ((bs : List ℕ) → b ∷ more ≢ 42 ∷ 47 ∷ bs) → ((bs : List ℕ) → b ∷ more ≢ 47 ∷ 42 ∷ bs) → after_comment d (b ∷ more) ≡ after_comment d more
unfolding after_comment
of_other d b [] no_end no_opening = refl
of_other d b (c ∷ bs) no_end no_opening = rw (no_pair b c 42 47 bs no_end, no_pair b c 47 42 bs no_opening) refl

pub computed : (text rest : List ℕ) → Comment text rest → (d : ℕ) → after_comment d text ≡ cond (d == 0) (Some rest) (after_comment (d - 1) rest)
computed text rest (ends e) d = ap (after_comment d) e ∙ of_end d rest
computed text rest (nests {inner = inner} {behind = behind} e g h) d =
    let back : suc d - 1 ≡ d = omega arith in
    let deeper : after_comment (suc d) inner ≡ after_comment (suc d - 1) behind = computed inner behind g (suc d) ∙ rw (ne_eqb (suc d) 0 (λ e. absurd (omega arith))) refl in
    ap (after_comment d) e ∙ of_opening d inner ∙ deeper ∙ ap (λ k. after_comment k behind) back ∙ computed behind rest h d
computed text rest (goes_on {more = more} {b = b} e no_end no_opening g) d =
    ap (after_comment d) e
    ∙ of_other d b more (λ bs h. no_end bs (e ∙ h)) (λ bs h. no_opening bs (e ∙ h))
    ∙ computed more rest g d

-- ---- and back

-- the comments around end one behind the other
abbrev Behind : ℕ → List ℕ → List ℕ → Type 0
Behind zero text rest = Comment text rest
Behind (suc d) text rest = (mid : List ℕ) × Comment text mid × Behind d mid rest

at_end : (d : ℕ) (bs rest : List ℕ) (text : List ℕ) → text ≡ 42 ∷ 47 ∷ bs → Behind d bs rest → Behind (suc d) text rest
at_end d bs rest text e h = (bs, ends e, h)

at_opening : (d : ℕ) (bs rest text : List ℕ) → text ≡ 47 ∷ 42 ∷ bs → Behind (suc d) bs rest → Behind d text rest
at_opening zero bs rest text e h = nests e h.1 h.2
at_opening (suc d) bs rest text e h = (h.2.0, nests e h.1 h.2.1, h.2.2)

at_other : (d b : ℕ) (more rest : List ℕ) → ((bs : List ℕ) → b ∷ more ≢ 42 ∷ 47 ∷ bs) → ((bs : List ℕ) → b ∷ more ≢ 47 ∷ 42 ∷ bs) → Behind d more rest → Behind d (b ∷ more) rest
at_other zero b more rest no_end no_opening h = goes_on refl no_end no_opening h
at_other (suc d) b more rest no_end no_opening h = (h.0, goes_on refl no_end no_opening h.1, h.2)

pair_is : (b c x y : ℕ) (bs : List ℕ) → (b == x && c == y) ≡ true → b ∷ c ∷ bs ≡ x ∷ y ∷ bs
pair_is b c x y bs both =
    let parts = and_parts (b == x) (c == y) both in (λ i. eqb-true b x parts.0 i ∷ eqb-true c y parts.1 i ∷ bs)

firsts_are : (b c x y : ℕ) (bs cs : List ℕ) → b ∷ c ∷ bs ≡ x ∷ y ∷ cs → (b ≡ x) × (c ≡ y)
firsts_are b c x y bs cs e = (cc, cc)

not_pair : (b c x y : ℕ) (bs : List ℕ) → (b == x && c == y) ≡ false → (cs : List ℕ) → b ∷ c ∷ bs ≢ x ∷ y ∷ cs
not_pair b c x y bs none cs e =
    let same = firsts_are b c x y bs cs e in
    let bad : true ≡ false = rw (eq-eqb b x same.0, eq-eqb c y same.1) at none in
    false≢true (sym bad)

lowered : (k : ℕ) (bs rest : List ℕ) → cond (suc k == 0) (Some bs) (after_comment (suc k - 1) bs) ≡ Some rest → after_comment k bs ≡ Some rest
lowered k bs rest h =
    let back : suc k - 1 ≡ k = omega arith in
    rw (ne_eqb (suc k) 0 (λ e. absurd (omega arith)), back) at h

pub behind : (d : ℕ) (text rest : List ℕ) → after_comment d text ≡ Some rest → Behind d text rest
unfolding after_comment
behind d [] rest e = absurd (nothing_is rest e)
behind d (b ∷ []) rest e = absurd (nothing_is rest e)
behind d (b ∷ c ∷ bs) rest e =
    elim (cases_Bool (b == 42 && c == 47)) [
      | inl end ↦
          elim d as (λ k. cond (k == 0) (Some bs) (after_comment (k - 1) bs) ≡ Some rest → Behind k (b ∷ c ∷ bs) rest) [
            | zero ↦ λ h. ends (pair_is b c 42 47 bs end ∙ ap (λ x. 42 ∷ 47 ∷ x) (some_is bs rest h))
            | suc k ↦ λ h. at_end k bs rest (b ∷ c ∷ bs) (pair_is b c 42 47 bs end) (behind k bs rest (lowered k bs rest h))
          ] (rw end at e)
      | inr no_end ↦
          elim (cases_Bool (b == 47 && c == 42)) [
            | inl opening ↦ at_opening d bs rest (b ∷ c ∷ bs) (pair_is b c 47 42 bs opening) (behind (suc d) bs rest (rw (no_end, opening) at e))
            | inr no_opening ↦ at_other d b (c ∷ bs) rest (not_pair b c 42 47 bs no_end) (not_pair b c 47 42 bs no_opening) (behind d (c ∷ bs) rest (rw (no_end, no_opening) at e))
          ]
    ]

pub computed_comments : ComputedComments
computed_comments text rest = (λ h. computed text rest h 0, λ e. behind 0 text rest e)

-- what follows a comment is so many bytes on
pub record Further (text rest : List ℕ) : Type 0 where
  pub n : ℕ
  pub within : n ≤ length text
  pub is : rest ≡ drop n text

one_more : (b : ℕ) (text rest : List ℕ) → Further text rest → Further (b ∷ text) rest
one_more b text rest f = record { n = suc f.n; within = omega (arith, f.within); is = f.is }

onwards : (text mid rest : List ℕ) → Further text mid → Further mid rest → Further text rest
onwards text mid rest a b = record {
  n = a.n + b.n;
  within = omega (arith, a.within, b.within, ap length a.is, length-drop a.n text);
  is = b.is ∙ ap (drop b.n) a.is ∙ drop-drop b.n a.n text;
}

pub comment_further : (text rest : List ℕ) → Comment text rest → Further text rest
comment_further text rest (ends e) = rw e (record { n = 2; within = omega arith; is = refl })
comment_further text rest (nests {inner = inner} {behind = mid} e g h) =
    let a = comment_further inner mid g in
    let b = comment_further mid rest h in
    rw e (one_more 47 (42 ∷ inner) rest (one_more 42 inner rest (onwards inner mid rest a b)))
comment_further text rest (goes_on {more = more} {b = b} e no_end no_opening g) = rw e (one_more b more rest (comment_further more rest g))

-- ---- the loop

pair_at : (bs : List ℕ) (i : ℕ) → i + 1 < length bs → drop i bs ≡ get_or bs i 0 ∷ get_or bs (i + 1) 0 ∷ drop (i + 2) bs
pair_at bs i lt =
    let more : i + 1 + 1 ≡ i + 2 = omega arith in
    let first : drop i bs ≡ get_or bs i 0 ∷ drop (i + 1) bs = rw add-one (drop-cons bs i 0 (omega arith)) in
    let second : drop (i + 1) bs ≡ get_or bs (i + 1) 0 ∷ drop (i + 1 + 1) bs = rw (add-one (i + 1)) (drop-cons bs (i + 1) 0 lt) in
    first ∙ ap (λ x. get_or bs i 0 ∷ x) (second ∙ ap (λ k. get_or bs (i + 1) 0 ∷ drop k bs) more)

one_at : (bs : List ℕ) (i : ℕ) → i + 1 < length bs → drop (i + 1) bs ≡ get_or bs (i + 1) 0 ∷ drop (i + 2) bs
one_at bs i lt =
    let more : i + 1 + 1 ≡ i + 2 = omega arith in
    let second : drop (i + 1) bs ≡ get_or bs (i + 1) 0 ∷ drop (i + 1 + 1) bs = rw (add-one (i + 1)) (drop-cons bs (i + 1) 0 lt) in
    second ∙ ap (λ k. get_or bs (i + 1) 0 ∷ drop k bs) more

module _ (bs : List ℕ) (i d : ℕ) (lt : i + 1 < length bs) where
  here : after_comment d (drop i bs) ≡ cond (get_or bs i 0 == 42 && get_or bs (i + 1) 0 == 47) (cond (d == 0) (Some (drop (i + 2) bs)) (after_comment (d - 1) (drop (i + 2) bs))) (cond (get_or bs i 0 == 47 && get_or bs (i + 1) 0 == 42) (after_comment (suc d) (drop (i + 2) bs)) (after_comment d (drop (i + 1) bs)))
  here = ap (after_comment d) (pair_at bs i lt) ∙ of_pair d (get_or bs i 0) (get_or bs (i + 1) 0) (drop (i + 2) bs) ∙ rw (one_at bs i lt) refl

  pub on_last_end : (whole : Option (List ℕ)) → (get_or bs i 0 == 42 && get_or bs (i + 1) 0 == 47) ≡ true → d ≡ 0 → after_comment d (drop i bs) ≡ whole → whole ≡ Some (drop (i + 2) bs)
  on_last_end whole end outermost so = sym so ∙ here ∙ rw (end, eq-eqb d 0 outermost) refl

  pub on_end : (whole : Option (List ℕ)) → (get_or bs i 0 == 42 && get_or bs (i + 1) 0 == 47) ≡ true → d ≢ 0 → after_comment d (drop i bs) ≡ whole → after_comment (d - 1) (drop (i + 2) bs) ≡ whole
  on_end whole end inner so = sym (here ∙ rw (end, ne_eqb d 0 inner) refl) ∙ so

  pub on_opening : (whole : Option (List ℕ)) → (get_or bs i 0 == 42 && get_or bs (i + 1) 0 == 47) ≡ false → (get_or bs i 0 == 47 && get_or bs (i + 1) 0 == 42) ≡ true → after_comment d (drop i bs) ≡ whole → after_comment (d + 1) (drop (i + 2) bs) ≡ whole
  on_opening whole no_end opening so = rw add-one (sym (here ∙ rw (no_end, opening) refl) ∙ so)

  pub on_other : (whole : Option (List ℕ)) → (get_or bs i 0 == 42 && get_or bs (i + 1) 0 == 47) ≡ false → (get_or bs i 0 == 47 && get_or bs (i + 1) 0 == 42) ≡ false → after_comment d (drop i bs) ≡ whole → after_comment d (drop (i + 1) bs) ≡ whole
  on_other whole no_end no_opening so = sym (here ∙ rw (no_end, no_opening) refl) ∙ so

short : (d : ℕ) (xs : List ℕ) → length xs ≤ 1 → after_comment d xs ≡ None
unfolding after_comment
short d [] le = refl
short d (b ∷ []) le = refl
short d (b ∷ c ∷ bs) le = absurd (omega arith)

pub on_nothing : (bs : List ℕ) (i d : ℕ) (whole : Option (List ℕ)) → length bs ≤ i + 1 → after_comment d (drop i bs) ≡ whole → whole ≡ None
on_nothing bs i d whole le so = sym so ∙ short d (drop i bs) (omega (arith, length-drop i bs))

pub last_slash : (bs : List ℕ) (i : ℕ) → (get_or bs i 0 == 42 && get_or bs (i + 1) 0 == 47) ≡ true → get_or bs (i + 2 - 1) 0 ≡ 47
last_slash bs i end =
    let parts = and_parts (get_or bs i 0 == 42) (get_or bs (i + 1) 0 == 47) end in
    let at : i + 2 - 1 ≡ i + 1 = omega arith in
    ap (λ k. get_or bs k 0) at ∙ eqb-true (get_or bs (i + 1) 0) 47 parts.1
