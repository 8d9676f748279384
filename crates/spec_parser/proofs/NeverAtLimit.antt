-- The readings that never stop at a limit, and what a reading that stops has read.
use Rattle.std.proofs.Common.{◌≡◌, ◌+◌, ◌⊎◌, inl, inr, length, ℕ, zero, suc, Bool, true, false, cond, List, [], ◌∷◌, Option, Some, None, Result, Ok, Err, refl, sym, ap, ◌∙◌}
use Rattle.iso_lexer.specs.declared.token.At.{At}
use Rattle.iso_lexer.specs.declared.spec_token.Keyword.{Keyword}
use Rattle.iso_lexer.specs.declared.spec_token.Keyword.TheVariants.{Setup, Teardown, Notices}
use Rattle.iso_lexer.specs.declared.spec_token.Sign.{Sign}
use Rattle.iso_lexer.specs.declared.spec_token.Sign.TheVariants.{Open, Close, Comma, Star}
use Rattle.iso_lexer.specs.SpecTokens.{SpecToken}
use Rattle.spec_parser.specs.declared.fault.What.{What}
use Rattle.spec_parser.specs.declared.fault.What.TheVariants as what
use Rattle.spec_parser.specs.declared.fault.Stop.{Stop}
use Rattle.spec_parser.specs.declared.fault.Stop.TheVariants.{Expected, NoticesLeftOut, OverLimit}
use Rattle.spec_parser.specs.Trees.{NameAt, MarkerTree, star, named}
use Rattle.spec_parser.specs.Counts.{Counts}
use Rattle.spec_parser.specs.Inner.Stopping.{Rest, Read, next_token, many_at, all_at, maybe_at, name_next, block_next, end_at, block_after, maybe_block, no_notices, marker_at, markers_at, token_at}
use Rattle.spec_parser.specs.Grammar.{a_name, a_block, a_word, a_sign}
use Rattle.spec_parser.specs.Inner.Pieces.{starts_word, starts_sign, word_at, sign_at, setup_at, teardown_at, setups_at, next_marker_at, next_markers_at, some_markers_at}
use Rattle.spec_parser.proofs.Local.{◌>>=◌, taken, no_value, stops_at, goes, goes_on}

-- ---- readings that never stop at a limit

abbrev pub Never : {A : Type 0} → (Rest → Read A) → Type 0
Never {A} p = (r after : Rest) → p r ≡ (Err OverLimit, after) → ⊥

pub not_expected : {A : Type 0} (w : What) (rest after : Rest) → ◌≡◌ {A = Read A} (Err (Expected w), rest) (Err OverLimit, after) → ⊥
not_expected {A} w rest after e = let same : ◌≡◌ {A = Result A Stop} (Err (Expected w)) (Err OverLimit) = ap (λ (q : Read A). q.0) e in absurd cc

pub not_value : {A : Type 0} (x : A) (rest after : Rest) → ◌≡◌ {A = Read A} (Ok x, rest) (Err OverLimit, after) → ⊥
not_value {A} x rest after e = no_value OverLimit x (sym (ap (λ (q : Read A). q.0) e))

taken_never : {A : Type 0} (o : Option A) (w : What) (c : Counts) (t : At SpecToken) (ts : List (At SpecToken)) (after : Rest) → taken o w c t ts ≡ (Err OverLimit, after) → ⊥
taken_never (Some x) w c t ts after e = not_value x _ after e
taken_never {A} None w c t ts after e = not_expected {A = A} w _ after e

token_never : {A : Type 0} (f : Counts → At SpecToken → Option A) (w : What) (c : Counts) (ts : List (At SpecToken)) (after : Rest) → token_at f w (c, ts) ≡ (Err OverLimit, after) → ⊥
token_never {A} f w c [] after e = not_expected {A = A} w _ after e
token_never f w c (t ∷ ts) after e = taken_never (f c t) w c t ts after e

pub word_never : (k : Keyword) (w : What) → Never (word_at k w)
unfolding next_token
word_never k w r after e = token_never (a_word k) w r.0 r.1 after e

sign_never : (g : Sign) (w : What) → Never (sign_at g w)
unfolding next_token
sign_never g w r after e = token_never (a_sign g) w r.0 r.1 after e

pub name_never : (w : What) → Never (name_next w)
unfolding name_next
name_never w r after e = token_never a_name w r.0 r.1 after e

pub block_never : Never block_next
unfolding block_next
block_never r after e = token_never a_block what.Block r.0 r.1 after e

end_by : (c : Counts) (ts : List (At SpecToken)) (after : Rest) → end_at (c, ts) ≡ (Err OverLimit, after) → ⊥
unfolding end_at
end_by c [] after e = not_value {A = Unit {0}} tt _ after e
end_by c (t ∷ ts) after e = not_expected {A = Unit {0}} what.Item _ after e

pub end_never : Never end_at
unfolding end_at
end_never r after e = end_by r.0 r.1 after e

-- the first part stops, or the second
pub err_two : {A B : Type 0} (q : Read A) (f : A × Rest → Read B) (s : Stop) (after : Rest) → (q >>= f) ≡ (Err s, after) → (q ≡ (Err s, after)) ⊎ ((x : A) × (mid : Rest) × (q ≡ (Ok x, mid)) × (f (x, mid) ≡ (Err s, after)))
err_two (Ok x, mid) f s after e = inr (x, mid, refl, e)
err_two {A} {B} (Err t, rest) f s after e =
    let same : ◌≡◌ {A = Result B Stop} (Err t) (Err s) = ap (λ (q : Read B). q.0) e in
    let is : t ≡ s = cc in
    inl (λ i. (Err (is i), (e i).1))

never_case : {A B : Type 0} (q : Read A) (f : A × Rest → Read B) (after : Rest) → (q ≡ (Err OverLimit, after) → ⊥) → ((x : A) (mid : Rest) → f (x, mid) ≡ (Err OverLimit, after) → ⊥) → (q ≡ (Err OverLimit, after)) ⊎ ((x : A) × (mid : Rest) × (q ≡ (Ok x, mid)) × (f (x, mid) ≡ (Err OverLimit, after))) → ⊥
never_case q f after first next_token (inl e) = first e
never_case q f after first next_token (inr (x, mid, is, e)) = next_token x mid e

pub never_then : {A B : Type 0} (p : Rest → Read A) (f : A × Rest → Read B) → Never p → ((x : A) → Never (λ r. f (x, r))) → Never (λ r. p r >>= f)
never_then p f first next_token r after e = never_case (p r) f after (first r after) (λ x mid h. next_token x mid after h) (err_two (p r) f OverLimit after e)

never_choice : {A : Type 0} (b : Bool) (p q : Read A) (after : Rest) → (p ≡ (Err OverLimit, after) → ⊥) → (q ≡ (Err OverLimit, after) → ⊥) → cond b p q ≡ (Err OverLimit, after) → ⊥
never_choice true p q after first second e = first e
never_choice false p q after first second e = second e

pub gives_never : {A : Type 0} (v : A) → Never (λ r. (Ok v, r))
gives_never v r after e = not_value v r after e

maybe_never : {A : Type 0} (starts : Rest → Bool) (p : Rest → Read A) → Never p → Never (maybe_at starts p)
unfolding maybe_at
maybe_never {A} starts p never r after e = never_choice (starts r) (p r >>= λ one. (Ok (Some one.0), one.1)) (Ok None, r) after
    (never_then p (λ one. (Ok (Some one.0), one.1)) never (λ x. gives_never (Some x)) r after) (not_value {A = Option A} None r after) e

pub many_zero : {A : Type 0} (starts : Rest → Bool) (item : ℕ → Rest → Read A) (k : ℕ) (s : Stop) (r after : Rest) → many_at starts item k zero r ≡ (Err s, after) → ⊥
unfolding many_at
many_zero {A} starts item k s r after e = no_value {A = List A} s [] (sym (ap (λ (q : Read (List A)). q.0) e))

-- the first of several stops, or one of the others
abbrev pub Stopped : {A : Type 0} → (Rest → Bool) → (ℕ → Rest → Read A) → ℕ → ℕ → Rest → Rest → Stop → Type 0
Stopped {A} starts item n k r after s = (item k r ≡ (Err s, after)) ⊎ ((x : A) × (mid : Rest) × (item k r ≡ (Ok x, mid)) × (many_at starts item (k + 1) n mid ≡ (Err s, after)))

no_later : {A : Type 0} (q : Read (List A)) (x : A) (s : Stop) (after : Rest) → (q ≡ (Err s, after)) ⊎ ((xs : List A) × (mid : Rest) × (q ≡ (Ok xs, mid)) × (◌≡◌ {A = Read (List A)} (Ok (x ∷ xs), mid) (Err s, after))) → q ≡ (Err s, after)
no_later q x s after (inl e) = e
no_later {A} q x s after (inr (xs, mid, is, e)) = absurd (no_value {A = List A} s (x ∷ xs) (sym (ap (λ (q : Read (List A)). q.0) e)))

stopped_case : {A : Type 0} (starts : Rest → Bool) (item : ℕ → Rest → Read A) (n k : ℕ) (r after : Rest) (s : Stop) → (item k r ≡ (Err s, after)) ⊎ ((x : A) × (mid : Rest) × (item k r ≡ (Ok x, mid)) × (goes starts item k n (x, mid) ≡ (Err s, after))) → Stopped starts item n k r after s
stopped_case starts item n k r after s (inl e) = inl e
stopped_case {A} starts item n k r after s (inr (x, mid, is, e)) =
    inr (x, mid, is, no_later (many_at starts item (k + 1) n mid) x s after (err_two (many_at starts item (k + 1) n mid) (λ others. (Ok (x ∷ others.0), others.1)) s after e))

stopped_by : {A : Type 0} (starts : Rest → Bool) (item : ℕ → Rest → Read A) (n k : ℕ) (b : Bool) (r after : Rest) (s : Stop) → starts r ≡ b → many_at starts item k (suc n) r ≡ (Err s, after) → Stopped starts item n k r after s
stopped_by {A} starts item n k false r after s is e = absurd (no_value {A = List A} s [] (ap (λ (q : Read (List A)). q.0) (sym e ∙ stops_at starts item k (suc n) r.0 r.1 is)))
stopped_by starts item n k true r after s is e = stopped_case starts item n k r after s (err_two (item k r) (goes starts item k n) s after (sym (goes_on starts item k n r.0 r.1 is) ∙ e))

pub stopped : {A : Type 0} (starts : Rest → Bool) (item : ℕ → Rest → Read A) (n k : ℕ) (r after : Rest) (s : Stop) → many_at starts item k (suc n) r ≡ (Err s, after) → Stopped starts item n k r after s
stopped starts item n k r after s e = stopped_by starts item n k (starts r) r after s refl e

many_case : {A : Type 0} (starts : Rest → Bool) (item : ℕ → Rest → Read A) (n k : ℕ) (r after : Rest) → ((k : ℕ) → Never (item k)) → ((m : Rest) → many_at starts item (k + 1) n m ≡ (Err OverLimit, after) → ⊥) → Stopped starts item n k r after OverLimit → ⊥
many_case starts item n k r after never later (inl e) = never k r after e
many_case starts item n k r after never later (inr (x, mid, is, e)) = later mid e

many_never : {A : Type 0} (starts : Rest → Bool) (item : ℕ → Rest → Read A) → ((k : ℕ) → Never (item k)) → (n k : ℕ) → Never (many_at starts item k n)
many_never starts item never zero k r after e = many_zero starts item k OverLimit r after e
many_never starts item never (suc n) k r after e = many_case starts item n k r after never (λ m h. many_never starts item never n (k + 1) m after h) (stopped starts item n k r after OverLimit e)

-- ---- blocks and markers

block_after_never : (k : Keyword) → Never (block_after k)
unfolding block_after
block_after_never k = never_then (word_at k what.Item) (λ key. block_next key.1) (word_never k what.Item) (λ _. block_never)

pub setup_never : Never setup_at
unfolding maybe_block
setup_never = maybe_never (starts_word Setup) (block_after Setup) (block_after_never Setup)

pub teardown_never : Never teardown_at
unfolding maybe_block
teardown_never = maybe_never (starts_word Teardown) (block_after Teardown) (block_after_never Teardown)

pub setups_never : Never setups_at
unfolding all_at
setups_never r after e = many_never (starts_word Setup) (λ k. block_after Setup) (λ k. block_after_never Setup) (length r.1) 0 r after e

notices_by : (b : Bool) (n : NameAt) (r after : Rest) → ◌≡◌ {A = Read MarkerTree} (cond b (Err NoticesLeftOut, r) (Ok (named n), r)) (Err OverLimit, after) → ⊥
notices_by true n r after e = let same : ◌≡◌ {A = Result MarkerTree Stop} (Err NoticesLeftOut) (Err OverLimit) = ap (λ (q : Read MarkerTree). q.0) e in absurd cc
notices_by false n r after e = not_value {A = MarkerTree} (named n) r after e

no_notices_never : (n : NameAt) → Never (no_notices n)
unfolding no_notices
no_notices_never n r after e = notices_by (starts_word Notices r) n r after e

marker_never : Never marker_at
unfolding marker_at
marker_never r after e = never_choice (starts_sign Star r) (sign_at Star what.Marker r >>= λ key. (Ok star, key.1)) (name_next what.Marker r >>= λ n. no_notices n.0 n.1) after
    (never_then (sign_at Star what.Marker) (λ key. (Ok star, key.1)) (sign_never Star what.Marker) (λ _. gives_never star) r after)
    (never_then (name_next what.Marker) (λ n. no_notices n.0 n.1) (name_never what.Marker) no_notices_never r after) e

next_marker_never : Never next_marker_at
next_marker_never = never_then (sign_at Comma what.CommaOrClose) (λ comma. marker_at comma.1) (sign_never Comma what.CommaOrClose) (λ _. marker_never)

next_markers_never : Never next_markers_at
unfolding all_at
next_markers_never r after e = many_never (starts_sign Comma) (λ k. next_marker_at) (λ k. next_marker_never) (length r.1) 0 r after e

markers_never : Never markers_at
unfolding markers_at
markers_never = never_then (sign_at Open what.Item) (λ opened. marker_at opened.1 >>= λ m. next_markers_at m.1 >>= λ others. sign_at Close what.CommaOrClose others.1 >>= λ closed. (Ok (m.0 ∷ others.0), closed.1)) (sign_never Open what.Item)
    (λ _. never_then marker_at (λ m. next_markers_at m.1 >>= λ others. sign_at Close what.CommaOrClose others.1 >>= λ closed. (Ok (m.0 ∷ others.0), closed.1)) marker_never
    (λ m. never_then next_markers_at (λ others. sign_at Close what.CommaOrClose others.1 >>= λ closed. (Ok (m ∷ others.0), closed.1)) next_markers_never
    (λ others. never_then (sign_at Close what.CommaOrClose) (λ closed. (Ok (m ∷ others), closed.1)) (sign_never Close what.CommaOrClose) (λ _. gives_never (m ∷ others)))))

pub some_markers_never : Never some_markers_at
some_markers_never = maybe_never (starts_sign Open) markers_at markers_never
