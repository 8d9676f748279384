-- Where reading stops at what is left out, the next token is the word `notices`.
use Rattle.std.proofs.Common.{◌≡◌, ◌⊎◌, inl, inr, length, ℕ, zero, suc, Bool, true, false, cond, List, [], ◌∷◌, Option, Some, None, Result, Ok, Err, refl, sym, ap, ◌∙◌, ◌+◌}
use Rattle.std.specs.Prelude.{nat_lt, unwrap_or}
use Rattle.iso_lexer.specs.declared.limits.TheConstants.{MOST_ENTRIES, MOST_SESSIONS, MOST_STEPS}
use Rattle.iso_lexer.specs.declared.token.At.{At}
use Rattle.iso_lexer.specs.declared.spec_token.Keyword.{Keyword}
use Rattle.iso_lexer.specs.declared.spec_token.Keyword.TheVariants.{Permutation, Session, Setup, Step, Teardown, Notices}
use Rattle.iso_lexer.specs.declared.spec_token.Sign.{Sign}
use Rattle.iso_lexer.specs.declared.spec_token.Sign.TheVariants.{Open, Close, Comma, Star}
use Rattle.iso_lexer.specs.SpecTokens.{SpecToken}
use Rattle.spec_parser.specs.declared.fault.What.{What}
use Rattle.spec_parser.specs.declared.fault.What.TheVariants as what
use Rattle.spec_parser.specs.declared.fault.Stop.{Stop}
use Rattle.spec_parser.specs.declared.fault.Stop.TheVariants.{Expected, NoticesLeftOut, OverLimit}
use Rattle.spec_parser.specs.Trees.{PartTree, NameAt, StepOf, SessionOf, MarkerTree, star, named, NamedEntry, FileTree}
use Rattle.spec_parser.specs.Counts.{Counts}
use Rattle.spec_parser.specs.Inner.Stopping.{Rest, Read, next_token, many_at, all_at, some_at, maybe_at, name_next, block_next, end_at, name_within, block_after, maybe_block, step_at, session_at, no_notices, marker_at, markers_at, entry_at, perm_at, file_at, token_at}
use Rattle.spec_parser.specs.Grammar.{a_name, a_block, a_word, a_sign}
use Rattle.spec_parser.specs.Inner.Pieces.{starts_word, starts_sign, starts_name, word_at, sign_at, setup_at, teardown_at, setups_at, steps_at, sessions_at, next_marker_at, next_markers_at, some_markers_at, entries_at, perms_at}
use Rattle.spec_parser.proofs.Local.{◌>>=◌, taken, no_value}
use Rattle.spec_parser.proofs.NeverAtLimit.{err_two, many_zero, Stopped, stopped}

abbrev AtNotices : Rest → Type 0
AtNotices r = starts_word Notices r ≡ true

abbrev Ends : {A : Type 0} → (Rest → Read A) → Type 0
Ends {A} p = (r after : Rest) → p r ≡ (Err NoticesLeftOut, after) → AtNotices after

not_expected : {A : Type 0} (w : What) (rest after : Rest) → ◌≡◌ {A = Read A} (Err (Expected w), rest) (Err NoticesLeftOut, after) → ⊥
not_expected {A} w rest after e = let same : ◌≡◌ {A = Result A Stop} (Err (Expected w)) (Err NoticesLeftOut) = ap (λ (q : Read A). q.0) e in absurd cc

not_limit : {A : Type 0} (rest after : Rest) → ◌≡◌ {A = Read A} (Err OverLimit, rest) (Err NoticesLeftOut, after) → ⊥
not_limit {A} rest after e = let same : ◌≡◌ {A = Result A Stop} (Err OverLimit) (Err NoticesLeftOut) = ap (λ (q : Read A). q.0) e in absurd cc

not_value : {A : Type 0} (x : A) (rest after : Rest) → ◌≡◌ {A = Read A} (Ok x, rest) (Err NoticesLeftOut, after) → ⊥
not_value {A} x rest after e = no_value NoticesLeftOut x (sym (ap (λ (q : Read A). q.0) e))

-- ---- one token

taken_ends : {A : Type 0} (o : Option A) (w : What) (c : Counts) (t : At SpecToken) (ts : List (At SpecToken)) (after : Rest) → taken o w c t ts ≡ (Err NoticesLeftOut, after) → ⊥
taken_ends (Some x) w c t ts after e = not_value x _ after e
taken_ends {A} None w c t ts after e = not_expected {A = A} w _ after e

token_ends : {A : Type 0} (f : Counts → At SpecToken → Option A) (w : What) (c : Counts) (ts : List (At SpecToken)) (after : Rest) → token_at f w (c, ts) ≡ (Err NoticesLeftOut, after) → ⊥
token_ends {A} f w c [] after e = not_expected {A = A} w _ after e
token_ends f w c (t ∷ ts) after e = taken_ends (f c t) w c t ts after e

word_ends : (k : Keyword) (w : What) → Ends (word_at k w)
unfolding next_token
word_ends k w r after e = absurd (token_ends (a_word k) w r.0 r.1 after e)

sign_ends : (g : Sign) (w : What) → Ends (sign_at g w)
unfolding next_token
sign_ends g w r after e = absurd (token_ends (a_sign g) w r.0 r.1 after e)

name_ends : (w : What) → Ends (name_next w)
unfolding name_next
name_ends w r after e = absurd (token_ends a_name w r.0 r.1 after e)

block_ends : Ends block_next
unfolding block_next
block_ends r after e = absurd (token_ends a_block what.Block r.0 r.1 after e)

end_by : (c : Counts) (ts : List (At SpecToken)) (after : Rest) → end_at (c, ts) ≡ (Err NoticesLeftOut, after) → ⊥
unfolding end_at
end_by c [] after e = not_value {A = Unit {0}} tt _ after e
end_by c (t ∷ ts) after e = not_expected {A = Unit {0}} what.Item _ after e

end_ends : Ends end_at
unfolding end_at
end_ends r after e = absurd (end_by r.0 r.1 after e)

name_by : (b d : Bool) (r after : Rest) → ◌≡◌ {A = Read NameAt} (cond b (name_next what.Name r) (cond d (Err OverLimit, r) (Err (Expected what.Name), r))) (Err NoticesLeftOut, after) → AtNotices after
name_by true d r after e = name_ends what.Name r after e
name_by false true r after e = absurd (not_limit {A = NameAt} r after e)
name_by false false r after e = absurd (not_expected {A = NameAt} what.Name r after e)

name_within_ends : (before most : ℕ) → Ends (name_within before most)
unfolding name_within
name_within_ends before most r after e = name_by (nat_lt before most) (starts_name r) r after e

-- ---- several

ends_case : {A B : Type 0} (q : Read A) (f : A × Rest → Read B) (after : Rest) → (q ≡ (Err NoticesLeftOut, after) → AtNotices after) → ((x : A) (mid : Rest) → f (x, mid) ≡ (Err NoticesLeftOut, after) → AtNotices after)
    → (q ≡ (Err NoticesLeftOut, after)) ⊎ ((x : A) × (mid : Rest) × (q ≡ (Ok x, mid)) × (f (x, mid) ≡ (Err NoticesLeftOut, after))) → AtNotices after
ends_case q f after first next_token (inl e) = first e
ends_case q f after first next_token (inr (x, mid, is, e)) = next_token x mid e

ends_then : {A B : Type 0} (p : Rest → Read A) (f : A × Rest → Read B) → Ends p → ((x : A) → Ends (λ r. f (x, r))) → Ends (λ r. p r >>= f)
ends_then p f first next_token r after e = ends_case (p r) f after (first r after) (λ x mid h. next_token x mid after h) (err_two (p r) f NoticesLeftOut after e)

ends_choice : {A : Type 0} (b : Bool) (p q : Read A) (after : Rest) → (p ≡ (Err NoticesLeftOut, after) → AtNotices after) → (q ≡ (Err NoticesLeftOut, after) → AtNotices after) → cond b p q ≡ (Err NoticesLeftOut, after) → AtNotices after
ends_choice true p q after first second e = first e
ends_choice false p q after first second e = second e

gives_ends : {A : Type 0} (v : A) → Ends (λ r. (Ok v, r))
gives_ends v r after e = absurd (not_value v r after e)

maybe_ends : {A : Type 0} (starts : Rest → Bool) (p : Rest → Read A) → Ends p → Ends (maybe_at starts p)
unfolding maybe_at
maybe_ends {A} starts p ends r after e = ends_choice (starts r) (p r >>= λ one. (Ok (Some one.0), one.1)) (Ok None, r) after
    (ends_then p (λ one. (Ok (Some one.0), one.1)) ends (λ x. gives_ends (Some x)) r after) (λ d. absurd (not_value {A = Option A} None r after d)) e

many_case : {A : Type 0} (starts : Rest → Bool) (item : ℕ → Rest → Read A) (n k : ℕ) (r after : Rest) → ((k : ℕ) → Ends (item k)) → ((m : Rest) → many_at starts item (k + 1) n m ≡ (Err NoticesLeftOut, after) → AtNotices after) → Stopped starts item n k r after NoticesLeftOut → AtNotices after
many_case starts item n k r after ends later (inl e) = ends k r after e
many_case starts item n k r after ends later (inr (x, mid, is, e)) = later mid e

many_ends : {A : Type 0} (starts : Rest → Bool) (item : ℕ → Rest → Read A) → ((k : ℕ) → Ends (item k)) → (n k : ℕ) → Ends (many_at starts item k n)
many_ends starts item ends zero k r after e = absurd (many_zero starts item k NoticesLeftOut r after e)
many_ends starts item ends (suc n) k r after e = many_case starts item n k r after ends (λ m h. many_ends starts item ends n (k + 1) m after h) (stopped starts item n k r after NoticesLeftOut e)

some_ends : {A : Type 0} (w : What) (starts : Rest → Bool) (item : ℕ → Rest → Read A) → ((k : ℕ) → Ends (item k)) → Ends (some_at w starts item)
unfolding some_at all_at
some_ends {A} w starts item ends r after e = ends_choice (starts r) (many_at starts item 0 (length r.1) r) (Err (Expected w), r) after (many_ends starts item ends (length r.1) 0 r after) (λ d. absurd (not_expected {A = List A} w r after d)) e

-- ---- the parts of a file

block_after_ends : (k : Keyword) → Ends (block_after k)
unfolding block_after
block_after_ends k = ends_then (word_at k what.Item) (λ key. block_next key.1) (word_ends k what.Item) (λ _. block_ends)

setup_ends : Ends setup_at
unfolding maybe_block
setup_ends = maybe_ends (starts_word Setup) (block_after Setup) (block_after_ends Setup)

teardown_ends : Ends teardown_at
unfolding maybe_block
teardown_ends = maybe_ends (starts_word Teardown) (block_after Teardown) (block_after_ends Teardown)

setups_end : Ends setups_at
unfolding all_at
setups_end r after e = many_ends (starts_word Setup) (λ k. block_after Setup) (λ k. block_after_ends Setup) (length r.1) 0 r after e

abbrev step_of : NameAt → PartTree → StepOf NameAt
step_of n b = record { name = n; part = b }

step_ends : Ends step_at
unfolding step_at
step_ends r after e = ends_then (word_at Step what.Item) (λ key. name_within r.0.steps MOST_STEPS key.1 >>= λ n. block_next n.1 >>= λ b. (Ok (step_of n.0 b.0), b.1)) (word_ends Step what.Item)
    (λ _. ends_then (name_within r.0.steps MOST_STEPS) (λ n. block_next n.1 >>= λ b. (Ok (step_of n.0 b.0), b.1)) (name_within_ends r.0.steps MOST_STEPS)
    (λ n. ends_then block_next (λ b. (Ok (step_of n b.0), b.1)) block_ends (λ b. gives_ends (step_of n b)))) r after e

steps_end : Ends steps_at
steps_end = some_ends what.Step (starts_word Step) (λ k. step_at) (λ k. step_ends)

abbrev session_of : NameAt → Option PartTree → List (StepOf NameAt) → Option PartTree → SessionOf NameAt
session_of n setup ss teardown = record { name = n; setup = setup; steps = ss; teardown = teardown }

session_ends : Ends session_at
unfolding session_at
session_ends r after e = ends_then (word_at Session what.Item) (λ key. name_within r.0.sessions MOST_SESSIONS key.1 >>= λ n. setup_at n.1 >>= λ setup. steps_at setup.1 >>= λ ss. teardown_at ss.1 >>= λ teardown. (Ok (session_of n.0 setup.0 ss.0 teardown.0), teardown.1)) (word_ends Session what.Item)
    (λ _. ends_then (name_within r.0.sessions MOST_SESSIONS) (λ n. setup_at n.1 >>= λ setup. steps_at setup.1 >>= λ ss. teardown_at ss.1 >>= λ teardown. (Ok (session_of n.0 setup.0 ss.0 teardown.0), teardown.1)) (name_within_ends r.0.sessions MOST_SESSIONS)
    (λ n. ends_then setup_at (λ setup. steps_at setup.1 >>= λ ss. teardown_at ss.1 >>= λ teardown. (Ok (session_of n setup.0 ss.0 teardown.0), teardown.1)) setup_ends
    (λ setup. ends_then steps_at (λ ss. teardown_at ss.1 >>= λ teardown. (Ok (session_of n setup ss.0 teardown.0), teardown.1)) steps_end
    (λ ss. ends_then teardown_at (λ teardown. (Ok (session_of n setup ss teardown.0), teardown.1)) teardown_ends (λ teardown. gives_ends (session_of n setup ss teardown)))))) r after e

sessions_end : Ends sessions_at
sessions_end = some_ends what.Session (starts_word Session) (λ k. session_at) (λ k. session_ends)

-- the one place of the word
notices_by : (b : Bool) (n : NameAt) (r after : Rest) → starts_word Notices r ≡ b → ◌≡◌ {A = Read MarkerTree} (cond b (Err NoticesLeftOut, r) (Ok (named n), r)) (Err NoticesLeftOut, after) → AtNotices after
notices_by true n r after is e = sym (ap (λ (q : Read MarkerTree). starts_word Notices q.1) e) ∙ is
notices_by false n r after is e = absurd (not_value {A = MarkerTree} (named n) r after e)

no_notices_ends : (n : NameAt) → Ends (no_notices n)
unfolding no_notices
no_notices_ends n r after e = notices_by (starts_word Notices r) n r after refl e

marker_ends : Ends marker_at
unfolding marker_at
marker_ends r after e = ends_choice (starts_sign Star r) (sign_at Star what.Marker r >>= λ key. (Ok star, key.1)) (name_next what.Marker r >>= λ n. no_notices n.0 n.1) after
    (ends_then (sign_at Star what.Marker) (λ key. (Ok star, key.1)) (sign_ends Star what.Marker) (λ _. gives_ends star) r after)
    (ends_then (name_next what.Marker) (λ n. no_notices n.0 n.1) (name_ends what.Marker) no_notices_ends r after) e

next_marker_ends : Ends next_marker_at
next_marker_ends = ends_then (sign_at Comma what.CommaOrClose) (λ comma. marker_at comma.1) (sign_ends Comma what.CommaOrClose) (λ _. marker_ends)

next_markers_end : Ends next_markers_at
unfolding all_at
next_markers_end r after e = many_ends (starts_sign Comma) (λ k. next_marker_at) (λ k. next_marker_ends) (length r.1) 0 r after e

markers_end : Ends markers_at
unfolding markers_at
markers_end = ends_then (sign_at Open what.Item) (λ opened. marker_at opened.1 >>= λ m. next_markers_at m.1 >>= λ others. sign_at Close what.CommaOrClose others.1 >>= λ closed. (Ok (m.0 ∷ others.0), closed.1)) (sign_ends Open what.Item)
    (λ _. ends_then marker_at (λ m. next_markers_at m.1 >>= λ others. sign_at Close what.CommaOrClose others.1 >>= λ closed. (Ok (m.0 ∷ others.0), closed.1)) marker_ends
    (λ m. ends_then next_markers_at (λ others. sign_at Close what.CommaOrClose others.1 >>= λ closed. (Ok (m ∷ others.0), closed.1)) next_markers_end
    (λ others. ends_then (sign_at Close what.CommaOrClose) (λ closed. (Ok (m ∷ others), closed.1)) (sign_ends Close what.CommaOrClose) (λ _. gives_ends (m ∷ others)))))

some_markers_end : Ends some_markers_at
some_markers_end = maybe_ends (starts_sign Open) markers_at markers_end

abbrev entry_of : NameAt → Option (List MarkerTree) → NamedEntry
entry_of n ms = record { name = n; markers = unwrap_or ms [] }

entry_ends : (k : ℕ) → Ends (entry_at k)
unfolding entry_at
entry_ends k = ends_then (name_within k MOST_ENTRIES) (λ n. some_markers_at n.1 >>= λ ms. (Ok (entry_of n.0 ms.0), ms.1)) (name_within_ends k MOST_ENTRIES)
    (λ n. ends_then some_markers_at (λ ms. (Ok (entry_of n ms.0), ms.1)) some_markers_end (λ ms. gives_ends (entry_of n ms)))

entries_end : Ends entries_at
entries_end = some_ends what.Name starts_name entry_at entry_ends

perm_ends : Ends perm_at
unfolding perm_at
perm_ends = ends_then (word_at Permutation what.Item) (λ key. entries_at key.1) (word_ends Permutation what.Item) (λ _. entries_end)

perms_end : Ends perms_at
unfolding all_at
perms_end r after e = many_ends (starts_word Permutation) (λ k. perm_at) (λ k. perm_ends) (length r.1) 0 r after e

abbrev file_of : List PartTree → Option PartTree → List (SessionOf NameAt) → List (List NamedEntry) → FileTree
file_of setups teardown ss perms = record { setups = setups; teardown = teardown; sessions = ss; perms = perms }

pub file_ends : (r after : Rest) → file_at r ≡ (Err NoticesLeftOut, after) → starts_word Notices after ≡ true
unfolding file_at
file_ends = ends_then setups_at (λ setups. teardown_at setups.1 >>= λ teardown. sessions_at teardown.1 >>= λ ss. perms_at ss.1 >>= λ perms. end_at perms.1 >>= λ ended. (Ok (file_of setups.0 teardown.0 ss.0 perms.0), ended.1)) setups_end
    (λ setups. ends_then teardown_at (λ teardown. sessions_at teardown.1 >>= λ ss. perms_at ss.1 >>= λ perms. end_at perms.1 >>= λ ended. (Ok (file_of setups teardown.0 ss.0 perms.0), ended.1)) teardown_ends
    (λ teardown. ends_then sessions_at (λ ss. perms_at ss.1 >>= λ perms. end_at perms.1 >>= λ ended. (Ok (file_of setups teardown ss.0 perms.0), ended.1)) sessions_end
    (λ ss. ends_then perms_at (λ perms. end_at perms.1 >>= λ ended. (Ok (file_of setups teardown ss perms.0), ended.1)) perms_end
    (λ perms. ends_then end_at (λ ended. (Ok (file_of setups teardown ss perms), ended.1)) end_ends (λ u. gives_ends (file_of setups teardown ss perms))))))
