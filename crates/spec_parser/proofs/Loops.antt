-- The loops over things of one kind.
use Rattle.std.proofs.Common.{◌≡◌, ℕ, suc, ◌+◌, ◌-◌, ◌<◌, ◌≤◌, Bool, true, false, List, [], ◌∷◌, ◌++◌, length, Result, Ok, Err, refl, sym, ap, ◌∙◌, arith, append_assoc, length-append, length-drop, drop}
use Rattle.std.specs.Prelude.{map, ◌^◌}
use Rattle.iso_lexer.specs.SpecTokens.{at_view}
use Rattle.spec_parser.specs.declared.reader.Reader.{Reader}
use Rattle.std.proofs.lemmas.List.{append-nil, map-append, length-map}
use Rattle.spec_parser.specs.declared.fault.Stop.{Stop}
use Rattle.spec_parser.specs.declared.fault.Halt.{Halt}
use Rattle.spec_parser.specs.declared.fault.Halt.TheVariants as halts
use Rattle.spec_parser.specs.Inner.Stopping.{Rest, Read, many_at, all_at}
use Rattle.iso_lexer.specs.SpecTokens.{SpecToken}
use Rattle.spec_parser.specs.Inner.Readers.{FailsAs, behind, rest_of}
use Rattle.spec_parser.proofs.Local.{first_is, ◌>>=◌, stops_at, goes_on, goes}

-- with those read so far, what is left gives the whole
pub record SoFar {A : Type 0} (starts : Rest → Bool) (item : ℕ → Rest → Read A) (init : List A) (all : Rest) (front : List A) (rest : Rest) : Type 0 where
  pub longer : length init ≤ length front
  pub room : length front + length rest.1 ≤ length init + length all.1
  pub told : behind front (many_at starts item (length front - length init) (length init + length all.1 - length front) rest) ≡ behind init (all_at starts item all)

pub starts_so_far : {A : Type 0} (starts : Rest → Bool) (item : ℕ → Rest → Read A) (init : List A) (all : Rest) → SoFar starts item init all init all
unfolding all_at
starts_so_far starts item init all =
    let none : length init - length init ≡ 0 = omega arith in
    let whole : length init + length all.1 - length init ≡ length all.1 = omega arith in
    record { longer = omega arith; room = omega arith; told = rw (none, whole) refl }

pub on_end : {A : Type 0} (starts : Rest → Bool) (item : ℕ → Rest → Read A) (init : List A) (all : Rest) (front : List A) (rest : Rest) → starts rest ≡ false → SoFar starts item init all front rest → behind init (all_at starts item all) ≡ (Ok front, rest)
on_end {A} starts item init all front rest e so =
    sym so.told ∙ ap (behind front) (stops_at starts item (length front - length init) (length init + length all.1 - length front) rest.0 rest.1 e) ∙ ap (λ (xs : List A). (Ok xs, rest)) (append-nil front)

regroup : {A : Type 0} (front : List A) (x : A) (read : Read (List A)) → behind front (read >>= λ others. (Ok (x ∷ others.0), others.1)) ≡ behind (front ++ x ∷ []) read
regroup {A} front x (Ok xs, rest) = ap (λ (ys : List A). (Ok ys, rest)) (sym (append_assoc front (x ∷ []) xs))
regroup front x (Err s, rest) = refl

pub on_item : {A : Type 0} (starts : Rest → Bool) (item : ℕ → Rest → Read A) (init : List A) (all : Rest) (front : List A) (rest after : Rest) (x : A) → starts rest ≡ true → item (length front - length init) rest ≡ (Ok x, after) → length after.1 < length rest.1 → SoFar starts item init all front rest → SoFar starts item init all (front ++ x ∷ []) after
on_item {A} starts item init all front rest after x e read lt so =
    let k = length front - length init in
    let n = length init + length all.1 - length (front ++ x ∷ []) in
    let longer : length (front ++ x ∷ []) ≡ length front + 1 = omega (arith, length-append front (x ∷ [])) in
    let next : length (front ++ x ∷ []) - length init ≡ k + 1 = omega (arith, longer, so.longer) in
    let left : length init + length all.1 - length front ≡ suc n = omega (arith, longer, so.room, lt) in
    record {
      longer = omega (arith, longer, so.longer);
      room = omega (arith, longer, so.room, lt);
      told = ap (λ j. behind (front ++ x ∷ []) (many_at starts item j n after)) next ∙ sym (regroup front x (many_at starts item (k + 1) n after))
          ∙ ap (behind front) (sym (ap (λ j. many_at starts item k j rest) left ∙ goes_on starts item k n rest.0 rest.1 e ∙ ap (λ (r : Read A). r >>= goes starts item k n) read)) ∙ so.told;
    }

no_stop : {A : Type 0} (x : A) (s : Stop) → ◌≡◌ {A = Result A Stop} (Ok x) (Err s) → ⊥
no_stop x s e = cc

same_stop : {A : Type 0} (s t : Stop) → ◌≡◌ {A = Result A Stop} (Err s) (Err t) → s ≡ t
same_stop s t e = cc

-- a reading that stops at its first part
pub stops_first : {A B : Type 0} (read : Read A) (f : A × Rest → Read B) (s : Stop) → read.0 ≡ Err s → (read >>= f) ≡ (Err s, read.1)
stops_first (Ok x, rest) f s e = absurd (no_stop x s e)
stops_first {A} (Err t, rest) f s e = ap (λ (u : Stop). (Err u, rest)) (same_stop {A = A} t s e)

pub on_stop : {A : Type 0} (starts : Rest → Bool) (item : ℕ → Rest → Read A) (init : List A) (all : Rest) (front : List A) (rest : Rest) (end : ℕ) (halt : Halt) → starts rest ≡ true → 0 < length rest.1 → FailsAs end halt (item (length front - length init) rest) → SoFar starts item init all front rest → FailsAs end halt (behind init (all_at starts item all))
on_stop starts item init all front rest end halts.Memory e lt fails so = tt
on_stop {A} starts item init all front rest end (halts.At s at) e lt fails so =
    let k = length front - length init in
    let n = length init + length all.1 - length front - 1 in
    let left : length init + length all.1 - length front ≡ suc n = omega (arith, so.room, lt) in
    let read : many_at starts item k (suc n) rest ≡ (Err s, (item k rest).1) = goes_on starts item k n rest.0 rest.1 e ∙ stops_first (item k rest) (goes starts item k n) s fails.0 in
    let whole : behind init (all_at starts item all) ≡ (Err s, (item k rest).1) = sym so.told ∙ ap (λ j. behind front (many_at starts item k j rest)) left ∙ ap (behind front) read in
    rw whole (refl, fails.1)

-- what is read behind nothing
pub behind_nothing : {A : Type 0} (read : Read (List A)) → behind [] read ≡ read
behind_nothing (Ok xs, rest) = refl
behind_nothing (Err s, rest) = refl

pub views_push : {X Y : Type 0} (view : X → Y) (xs ys : List X) (x : X) → ys ≡ xs ++ x ∷ [] → map view ys ≡ map view xs ++ view x ∷ []
views_push view xs ys x e = ap (map view) e ∙ map-append view xs (x ∷ [])

pub starts_nonempty : (p : SpecToken → Bool) (r : Rest) → first_is p r.1 ≡ true → 0 < length r.1
starts_nonempty p (c, []) e = absurd cc
starts_nonempty p (c, t ∷ ts) e = omega arith

pub views_len : {X Y : Type 0} (view : X → Y) (xs : List X) → length (map view xs) ≡ length xs
views_len view xs = length-map xs view

pub rest_len : (r : Reader) → length (rest_of r).1 < 2 ^ 32
rest_len r = omega (arith, length-map (drop r.at r.tokens.now) at_view, length-drop r.at r.tokens.now, r.few)
