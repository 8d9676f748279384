-- What is read goes over to what stands before: no token is lost.
use Rattle.std.proofs.Common.{◌≡◌, ℕ, zero, suc, ◌+◌, Bool, true, false, cond, List, [], ◌∷◌, ◌++◌, length, append_assoc, Option, Some, None, Result, Ok, Err, refl, subst}
use Rattle.std.specs.Prelude.{nat_le}
use Rattle.std.specs.Option.{option_map_or}
use Rattle.iso_lexer.specs.declared.limits.TheConstants.{MOST_ENTRIES, MOST_SESSIONS, MOST_STEPS}
use Rattle.iso_lexer.specs.declared.token.At.{At}
use Rattle.iso_lexer.specs.declared.spec_token.Keyword.{Keyword}
use Rattle.iso_lexer.specs.declared.spec_token.Keyword.TheVariants.{Permutation, Session, Setup, Step, Teardown, Notices}
use Rattle.iso_lexer.specs.declared.spec_token.Sign.TheVariants.{Open, Close, Comma, Star}
use Rattle.iso_lexer.specs.SpecTokens.{SpecToken}
use Rattle.iso_lexer.specs.Results.{if_ok}
use Rattle.iso_lexer.specs.Readers.{◌>>=◌, gives}
use Rattle.spec_parser.specs.declared.fault.What.{What}
use Rattle.spec_parser.specs.declared.fault.What.TheVariants as what
use Rattle.spec_parser.specs.declared.fault.SpecFault.{SpecFault}
use Rattle.spec_parser.specs.declared.fault.SpecFault.TheVariants as faults
use Rattle.spec_parser.specs.Trees.{PartTree, NameAt, StepOf, SessionOf, MarkerTree, star, named, NamedEntry, FileTree}
use Rattle.spec_parser.specs.Reading.{SpecReader, TokenKind, the_word, the_sign, the_name, the_block, count, if_next, many_from, many_of, at_most, expected, one_token, spec_block, maybe_block, step_at, session_at, marker_at, markers_at, entry_at, file_at}

-- the tokens before, and those from here on
abbrev pub Rest : Type 0
Rest = List (At SpecToken) × List (At SpecToken)

-- both are these tokens
abbrev pub Whole : {A : Type 0} → List (At SpecToken) → Result (A × Rest) SpecFault → Type 0
Whole ts (Ok x) = x.1.0 ++ x.1.1 ≡ ts
Whole ts (Err e) = Unit {0}

abbrev Passes : {A : Type 0} → SpecReader A → Type 0
Passes p = (r : Rest) → Whole (r.0 ++ r.1) (p r)

seq : {A B : Type 0} (ts : List (At SpecToken)) (o : Result (A × Rest) SpecFault) (g : A → SpecReader B) → Whole ts o → ((x : A) → Passes (g x)) → Whole ts (if_ok o (λ x. g x.0 x.1))
seq ts (Ok x) g h passes = subst (λ us. Whole us (g x.0 x.1)) h (passes x.0 x.1)
seq ts (Err e) g h passes = tt

then : {A B : Type 0} (p : SpecReader A) (g : A → SpecReader B) → Passes p → ((x : A) → Passes (g x)) → Passes (p >>= g)
then p g first passes r = seq (r.0 ++ r.1) (p r) g (first r) passes

next_by : {A B : Type 0} (o : Option A) (behind : A → SpecReader B) (others : SpecReader B) (b : List (At SpecToken)) (t : At SpecToken) (ts : List (At SpecToken)) → ((x : A) → Passes (behind x)) → Passes others
    → Whole (b ++ t ∷ ts) (option_map_or (λ x. behind x (b ++ t ∷ [], ts)) o (others (b, t ∷ ts)))
next_by (Some x) behind others b t ts passes other = subst (λ us. Whole us (behind x (b ++ t ∷ [], ts))) (append_assoc b (t ∷ []) ts) (passes x (b ++ t ∷ [], ts))
next_by None behind others b t ts passes other = other (b, t ∷ ts)

next_passes : {A B : Type 0} (kind : TokenKind A) (behind : A → SpecReader B) (others : SpecReader B) → ((x : A) → Passes (behind x)) → Passes others → Passes (if_next kind behind others)
next_passes kind behind others passes other (b, []) = other (b, [])
next_passes kind behind others passes other (b, t ∷ ts) = next_by (kind t) behind others b t ts passes other

gives_passes : {A : Type 0} (x : A) → Passes (gives x)
gives_passes x r = refl

many_passes : {A B : Type 0} (kind : TokenKind A) (item : ℕ → A → SpecReader B) → ((k : ℕ) (x : A) → Passes (item k x)) → (k n : ℕ) (none : SpecReader (List B)) → Passes none → Passes (many_from kind item k n none)
unfolding many_from
many_passes kind item each k zero none h = h
many_passes {A} {B} kind item each k (suc n) none h =
    let others : B → SpecReader (List B) = λ y. many_from kind item (k + 1) n (gives []) >>= λ ys. gives (y ∷ ys) in
    next_passes kind (λ x. item k x >>= others) none
    (λ x. then (item k x) others (each k x) (λ y. then (many_from kind item (k + 1) n (gives [])) (λ ys. gives (y ∷ ys)) (many_passes kind item each (k + 1) n (gives []) (λ r. refl)) (λ ys. gives_passes (y ∷ ys)))) h

all_pass : {A B : Type 0} (kind : TokenKind A) (item : ℕ → A → SpecReader B) → ((k : ℕ) (x : A) → Passes (item k x)) → (none : SpecReader (List B)) → Passes none → Passes (many_of kind item none)
all_pass kind item each none h r = many_passes kind item each 1 (length r.1) none h r

most_by : (b : Bool) (n : NameAt) (r : Rest) → Whole (r.0 ++ r.1) (cond {A = Result (NameAt × Rest) SpecFault} b (Ok (n, r)) (Err (faults.Limit n.at)))
most_by true n r = refl
most_by false n r = tt

most_passes : (most number : ℕ) (n : NameAt) → Passes (at_most most number n)
most_passes most number n r = most_by (nat_le number most) n r

one_passes : {A : Type 0} (last : ℕ) (kind : TokenKind A) (w : What) → Passes (one_token last kind w)
one_passes last kind w = next_passes kind gives (expected last w) (λ x. gives_passes x) (λ r. tt)

block_passes : (last : ℕ) → Passes (spec_block last)
block_passes last r = one_passes last (the_block (count (the_block 0) r.0)) what.Block r

maybe_passes : (last : ℕ) (k : Keyword) → Passes (maybe_block last k)
unfolding maybe_block
maybe_passes last k = next_passes (the_word k) (λ at. spec_block last >>= λ b. gives (Some b)) (gives None) (λ at. then (spec_block last) (λ b. gives (Some b)) (block_passes last) (λ b. gives_passes (Some b))) (λ r. refl)

within_passes : (last most number : ℕ) → Passes (one_token last the_name what.Name >>= at_most most number)
within_passes last most number = then (one_token last the_name what.Name) (at_most most number) (one_passes last the_name what.Name) (most_passes most number)

abbrev step_of : NameAt → PartTree → StepOf NameAt
step_of n b = record { name = n; part = b }

step_passes : (last : ℕ) → Passes (step_at last)
unfolding step_at
step_passes last r = then (one_token last the_name what.Name >>= at_most MOST_STEPS (count (the_word Step) r.0)) (λ n. spec_block last >>= λ b. gives (step_of n b)) (within_passes last MOST_STEPS (count (the_word Step) r.0))
    (λ n. then (spec_block last) (λ b. gives (step_of n b)) (block_passes last) (λ b. gives_passes (step_of n b))) r

abbrev session_of : NameAt → Option PartTree → List (StepOf NameAt) → Option PartTree → SessionOf NameAt
session_of n setup ss teardown = record { name = n; setup = setup; steps = ss; teardown = teardown }

session_passes : (last : ℕ) → Passes (session_at last)
unfolding session_at
session_passes last r =
    let steps = many_of (the_word Step) (λ k at. step_at last) (expected last what.Step) in
    let fourth : NameAt → Option PartTree → List (StepOf NameAt) → SpecReader (SessionOf NameAt) = λ n setup ss. maybe_block last Teardown >>= λ teardown. gives (session_of n setup ss teardown) in
    let third : NameAt → Option PartTree → SpecReader (SessionOf NameAt) = λ n setup. steps >>= fourth n setup in
    let second : NameAt → SpecReader (SessionOf NameAt) = λ n. maybe_block last Setup >>= third n in
    then (one_token last the_name what.Name >>= at_most MOST_SESSIONS (count (the_word Session) r.0)) second (within_passes last MOST_SESSIONS (count (the_word Session) r.0))
    (λ n. then (maybe_block last Setup) (third n) (maybe_passes last Setup)
    (λ setup. then steps (fourth n setup) (all_pass (the_word Step) (λ k at. step_at last) (λ k at. step_passes last) (expected last what.Step) (λ r. tt))
    (λ ss. then (maybe_block last Teardown) (λ teardown. gives (session_of n setup ss teardown)) (maybe_passes last Teardown) (λ teardown. gives_passes (session_of n setup ss teardown))))) r

marker_passes : (last : ℕ) → Passes (marker_at last)
unfolding marker_at
marker_passes last =
    let no_notices : NameAt → SpecReader MarkerTree = λ n. if_next (the_word Notices) (λ at r. Err (faults.NoticesLeftOut at)) (gives (named n)) in
    next_passes (the_sign Star) (λ at. gives star) (one_token last the_name what.Marker >>= no_notices) (λ at. gives_passes star)
    (then (one_token last the_name what.Marker) no_notices (one_passes last the_name what.Marker) (λ n. next_passes (the_word Notices) (λ at r. Err (faults.NoticesLeftOut at)) (gives (named n)) (λ at r. tt) (gives_passes (named n))))

markers_pass : (last : ℕ) → Passes (markers_at last)
unfolding markers_at
markers_pass last =
    let others = many_of (the_sign Comma) (λ k at. marker_at last) (gives []) in
    let third : MarkerTree → List MarkerTree → SpecReader (List MarkerTree) = λ m ms. one_token last (the_sign Close) what.CommaOrClose >>= λ closed. gives (m ∷ ms) in
    let second : MarkerTree → SpecReader (List MarkerTree) = λ m. others >>= third m in
    then (marker_at last) second (marker_passes last)
    (λ m. then others (third m) (all_pass (the_sign Comma) (λ k at. marker_at last) (λ k at. marker_passes last) (gives []) (λ r. refl))
    (λ ms. then (one_token last (the_sign Close) what.CommaOrClose) (λ closed. gives (m ∷ ms)) (one_passes last (the_sign Close) what.CommaOrClose) (λ closed. gives_passes (m ∷ ms))))

abbrev entry_of : NameAt → List MarkerTree → NamedEntry
entry_of n ms = record { name = n; markers = ms }

entry_passes : (last k : ℕ) (n : NameAt) → Passes (entry_at last k n)
unfolding entry_at
entry_passes last k n =
    let markers = if_next (the_sign Open) (λ at. markers_at last) (gives []) in
    then (at_most MOST_ENTRIES k n) (λ n. markers >>= λ ms. gives (entry_of n ms)) (most_passes MOST_ENTRIES k n)
    (λ n. then markers (λ ms. gives (entry_of n ms)) (next_passes (the_sign Open) (λ at. markers_at last) (gives []) (λ at. markers_pass last) (λ r. refl)) (λ ms. gives_passes (entry_of n ms)))

abbrev file_of : List PartTree → Option PartTree → List (SessionOf NameAt) → List (List NamedEntry) → FileTree
file_of setups teardown ss perms = record { setups = setups; teardown = teardown; sessions = ss; perms = perms }

-- what was read and what is left are the tokens of the file
pub file_passes : (last : ℕ) (r : Rest) → Whole (r.0 ++ r.1) (file_at last r)
unfolding file_at
file_passes last =
    let setups = many_of (the_word Setup) (λ k at. spec_block last) (gives []) in
    let sessions = many_of (the_word Session) (λ k at. session_at last) (expected last what.Session) in
    let entries = many_of the_name (entry_at last) (expected last what.Name) in
    let perms = many_of (the_word Permutation) (λ k at. entries) (gives []) in
    let ending : FileTree → SpecReader FileTree = λ f. if_next Some (λ t r. Err (faults.Expected what.Item t.span.start)) (gives f) in
    let fourth : List PartTree → Option PartTree → List (SessionOf NameAt) → SpecReader FileTree = λ us t ss. perms >>= λ ps. ending (file_of us t ss ps) in
    let third : List PartTree → Option PartTree → SpecReader FileTree = λ us t. sessions >>= fourth us t in
    let second : List PartTree → SpecReader FileTree = λ us. maybe_block last Teardown >>= third us in
    then setups second (all_pass (the_word Setup) (λ k at. spec_block last) (λ k at. block_passes last) (gives []) (λ r. refl))
    (λ us. then (maybe_block last Teardown) (third us) (maybe_passes last Teardown)
    (λ t. then sessions (fourth us t) (all_pass (the_word Session) (λ k at. session_at last) (λ k at. session_passes last) (expected last what.Session) (λ r. tt))
    (λ ss. then perms (λ ps. ending (file_of us t ss ps)) (all_pass (the_word Permutation) (λ k at. entries) (λ k at. all_pass the_name (entry_at last) (entry_passes last) (expected last what.Name) (λ r. tt)) (gives []) (λ r. refl))
    (λ ps. next_passes Some (λ t r. Err (faults.Expected what.Item t.span.start)) (gives (file_of us t ss ps)) (λ t r. tt) (gives_passes (file_of us t ss ps))))))
