-- The readings of the grammar's productions are local.
use Rattle.std.proofs.Common.{◌≡◌, ◌<◌, length, ℕ, true, List, [], ◌∷◌, ◌++◌, Option, Some, None, Ok, Err, refl, sym, ap, ◌∙◌, append_assoc}
use Rattle.std.proofs.lemmas.List.{append-nil}
use Rattle.std.specs.Prelude.{unwrap_or, nat_lt}
use denote.Enum.Bare.{true_same}
use Rattle.iso_lexer.specs.declared.limits.TheConstants.{MOST_ENTRIES, MOST_SESSIONS, MOST_STEPS}
use Rattle.iso_lexer.specs.declared.token.At.{At}
use Rattle.iso_lexer.specs.declared.spec_token.Keyword.{Keyword}
use Rattle.iso_lexer.specs.declared.spec_token.Keyword.TheVariants.{Permutation, Session, Setup, Step, Teardown, Notices}
use Rattle.iso_lexer.specs.contracts.spec_token.Keyword.{the_type as words}
use Rattle.iso_lexer.specs.declared.spec_token.Sign.{Sign}
use Rattle.iso_lexer.specs.declared.spec_token.Sign.TheVariants.{Open, Close, Comma, Star}
use Rattle.iso_lexer.specs.contracts.spec_token.Sign.{the_type as signs}
use Rattle.iso_lexer.specs.Names.{plain}
use Rattle.iso_lexer.specs.SpecTokens.{SpecToken, keyword, name, sign, block}
use Rattle.spec_parser.specs.declared.fault.What.{What}
use Rattle.spec_parser.specs.declared.fault.What.TheVariants as what
use Rattle.spec_parser.specs.declared.fault.Stop.TheVariants.{Expected, NoticesLeftOut, OverLimit}
use Rattle.spec_parser.specs.Trees.{PartTree, NameAt, StepOf, SessionOf, MarkerTree, star, named, NamedEntry, FileTree}
use Rattle.spec_parser.specs.Counts.{Counts}
use Rattle.spec_parser.specs.Inner.Stopping.{Rest, next_token, name_next, block_next, end_at, name_within, block_after, maybe_block, step_at, session_at, no_notices, marker_at, markers_at, entry_at, perm_at, file_at}
use Rattle.spec_parser.specs.Grammar.{a_name, a_block, is_keyword, is_mark, is_name, Grammar, gives, one, a_word, a_sign, Maybe, Many, none, some, first, second, block_behind, step, session, marker, markers, entry, perm, file}
use Rattle.spec_parser.specs.Inner.Pieces.{starts_word, starts_sign, starts_name, word_at, sign_at, setup_at, teardown_at, setups_at, steps_at, sessions_at, next_marker_at, next_markers_at, some_markers_at, entries_at, perms_at}
use Rattle.spec_parser.specs.Grammar.{◌>>=◌ as ◌▸◌}
use Rattle.spec_parser.specs.Laws.{head, names_token}
use Rattle.spec_parser.proofs.Local.{◌>>=◌, AreLocal, LocalFrom, LocalRead, local_read, Inhabited, Begins, inhabited, Within, token_local, there_local, was_there, was_first, then, start_then, then_from, seq_inhabited, seq_begins, gives_inhabited, gives_local, by_head, choice, wider, start_wider, at_once, maybe_local, maybe_inhabited, many_local, many_inhabited, many_begins, many_twice, some_local, some_begins, first_takes, shortens}

-- ---- one token

made : SpecToken → At SpecToken
made t = record { tok = t; span = record { start = 0; end = 0 } }

same_itself : (k : Keyword) → is_keyword k (keyword k) ≡ true
same_itself k = true_same words k k refl

same_sign_itself : (g : Sign) → is_mark g (sign g) ≡ true
same_sign_itself g = true_same signs g g refl

word_begins : (w : What) (k : Keyword) → names_token w (keyword k) ≡ true → Begins w (one (a_word k))
unfolding made
word_begins w k e c = (made (keyword k) ∷ [], tt, (made (keyword k), refl, rw (same_itself k) refl), e)

sign_begins : (w : What) (g : Sign) → names_token w (sign g) ≡ true → Begins w (one (a_sign g))
unfolding made
sign_begins w g e c = (made (sign g) ∷ [], tt, (made (sign g), refl, rw (same_sign_itself g) refl), e)

name_begins : (w : What) → names_token w (name (plain [])) ≡ true → Begins w (one a_name)
unfolding made
name_begins w e c = (made (name (plain [])) ∷ [], record { name = plain []; at = 0 }, (made (name (plain [])), refl, refl), e)

name_inhabited : Inhabited (one a_name)
name_inhabited = inhabited what.Name (one a_name) (name_begins what.Name refl)

block_begins : Begins what.Block (one a_block)
unfolding made
block_begins c = (made (block 0 []) ∷ [], record { sql = []; at = 1; block = c.blocks }, (made (block 0 []), refl, refl), refl)

block_inhabited : Inhabited (one a_block)
block_inhabited = inhabited what.Block (one a_block) block_begins

-- the word with which a part begins, where it stands
word_local : (k : Keyword) (w : What) → LocalFrom (starts_word k) (one (a_word k)) (word_at k w)
unfolding next_token
word_local k w = there_local (is_keyword k) w

pub word_read : (k : Keyword) (w : What) → LocalRead (one (a_word k)) (word_at k w)
unfolding next_token
word_read k w r after u e = word_local k w r.0 r.1 (was_there (is_keyword k) w r after u e)

sign_local : (g : Sign) (w : What) → LocalFrom (starts_sign g) (one (a_sign g)) (sign_at g w)
unfolding next_token
sign_local g w = there_local (is_mark g) w

close_local : AreLocal (one (a_sign Close)) (sign_at Close what.CommaOrClose)
unfolding next_token
close_local = token_local (a_sign Close) what.CommaOrClose (sign_begins what.CommaOrClose Close refl)

name_local : (w : What) → names_token w (name (plain [])) ≡ true → AreLocal (one a_name) (name_next w)
unfolding name_next
name_local w e = token_local a_name w (name_begins w e)

block_local : AreLocal (one a_block) block_next
unfolding block_next
block_local = token_local a_block what.Block block_begins

pub name_within_local : (before most : ℕ) → AreLocal (one a_name) (name_within before most)
unfolding name_within
name_within_local before most = choice (λ r. nat_lt before most) (name_next what.Name) _ (λ c d xs ys h. refl) (λ c ts e. name_local what.Name refl c ts)
    (choice starts_name (λ r. (Err OverLimit, r)) (λ r. (Err (Expected what.Name), r)) (by_head is_name)
    (λ c ts e. let a = name_inhabited c in at_once (one a_name) (Err OverLimit) c ts (a.0, a.1, a.2, tt))
    (λ c ts. at_once (one a_name) (Err (Expected what.Name)) c ts (name_begins what.Name refl c)))

-- ---- blocks

block_after_local : (k : Keyword) → LocalFrom (starts_word k) (block_behind k) (block_after k)
unfolding block_after
block_after_local k = start_then {G = one (a_word k)} {H = λ _. one a_block} (starts_word k) (word_at k what.Item) (λ key. block_next key.1) (word_local k what.Item) (λ _. block_inhabited) (λ _. block_local)

block_after_read : (k : Keyword) → LocalRead (block_behind k) (block_after k)
unfolding block_after next_token
block_after_read k r after b e = block_after_local k r.0 r.1 (was_first (is_keyword k) what.Item _ r after b e)

pub setup_local : AreLocal (Maybe (block_behind Setup)) setup_at
unfolding maybe_block
setup_local = maybe_local (block_behind Setup) (starts_word Setup) (block_after Setup) (by_head (is_keyword Setup)) (block_after_local Setup)

pub teardown_local : AreLocal (Maybe (block_behind Teardown)) teardown_at
unfolding maybe_block
teardown_local = maybe_local (block_behind Teardown) (starts_word Teardown) (block_after Teardown) (by_head (is_keyword Teardown)) (block_after_local Teardown)

pub setups_local : AreLocal (Many (block_behind Setup)) setups_at
setups_local = many_local (block_behind Setup) (starts_word Setup) (λ k. block_after Setup) (by_head (is_keyword Setup)) (λ c. refl) (first_takes (a_word Setup) (λ _. one a_block)) (λ k. block_after_local Setup)

-- ---- steps

abbrev step_of : NameAt → PartTree → StepOf NameAt
step_of n b = record { name = n; part = b }

step_end_inhabited : (n : NameAt) → Inhabited (one a_block ▸ λ b. gives (step_of n b))
step_end_inhabited n = seq_inhabited (one a_block) (λ b. gives (step_of n b)) block_inhabited (λ b. gives_inhabited (step_of n b))

after_step_inhabited : Inhabited (one a_name ▸ λ n. one a_block ▸ λ b. gives (step_of n b))
after_step_inhabited = seq_inhabited (one a_name) (λ n. one a_block ▸ λ b. gives (step_of n b)) name_inhabited step_end_inhabited

step_begins : Begins what.Step step
step_begins = seq_begins what.Step (one (a_word Step)) (λ _. one a_name ▸ λ n. one a_block ▸ λ b. gives (step_of n b)) (word_begins what.Step Step refl) (λ _. after_step_inhabited)

step_end_local : (n : NameAt) → AreLocal (one a_block ▸ λ b. gives (step_of n b)) (λ r. block_next r >>= λ b. (Ok (step_of n b.0), b.1))
step_end_local n = then {G = one a_block} {H = λ b. gives (step_of n b)} block_next (λ b. (Ok (step_of n b.0), b.1)) block_local (λ b. gives_inhabited (step_of n b)) (λ b. gives_local (step_of n b))

step_local : LocalFrom (starts_word Step) step step_at
unfolding step_at
step_local = then_from {G = one (a_word Step)} {H = λ _. one a_name ▸ λ n. one a_block ▸ λ b. gives (step_of n b)} (starts_word Step) (word_at Step what.Item)
    (λ d key. name_within d.steps MOST_STEPS key.1 >>= λ n. block_next n.1 >>= λ b. (Ok (step_of n.0 b.0), b.1)) (word_local Step what.Item) (λ _. after_step_inhabited)
    (λ d _. then {G = one a_name} {H = λ n. one a_block ▸ λ b. gives (step_of n b)} (name_within d.steps MOST_STEPS) (λ n. block_next n.1 >>= λ b. (Ok (step_of n.0 b.0), b.1)) (name_within_local d.steps MOST_STEPS) step_end_inhabited step_end_local)

pub step_read : LocalRead step step_at
unfolding step_at next_token
step_read r after s e = step_local r.0 r.1 (was_first (is_keyword Step) what.Item _ r after s e)

pub steps_local : AreLocal (some step) steps_at
steps_local = some_local step what.Step (starts_word Step) (λ k. step_at) step_begins (by_head (is_keyword Step)) (λ c. refl) (first_takes (a_word Step) (λ _. one a_name ▸ λ n. one a_block ▸ λ b. gives (step_of n b))) (λ k. step_local)

-- ---- sessions

abbrev session_of : NameAt → Option PartTree → List (StepOf NameAt) → Option PartTree → SessionOf NameAt
session_of n setup steps teardown = record { name = n; setup = setup; steps = steps; teardown = teardown }

abbrev TornDown : NameAt → Option PartTree → List (StepOf NameAt) → Grammar (SessionOf NameAt)
TornDown n setup steps = Maybe (block_behind Teardown) ▸ λ teardown. gives (session_of n setup steps teardown)

abbrev Stepped : NameAt → Option PartTree → Grammar (SessionOf NameAt)
Stepped n setup = some step ▸ TornDown n setup

abbrev SetUp : NameAt → Grammar (SessionOf NameAt)
SetUp n = Maybe (block_behind Setup) ▸ Stepped n

torn_inhabited : (n : NameAt) (setup : Option PartTree) (steps : List (StepOf NameAt)) → Inhabited (TornDown n setup steps)
torn_inhabited n setup steps = seq_inhabited (Maybe (block_behind Teardown)) (λ teardown. gives (session_of n setup steps teardown)) (maybe_inhabited (block_behind Teardown)) (λ teardown. gives_inhabited (session_of n setup steps teardown))

stepped_inhabited : (n : NameAt) (setup : Option PartTree) → Inhabited (Stepped n setup)
stepped_inhabited n setup = seq_inhabited (some step) (TornDown n setup) (inhabited what.Step (some step) (some_begins what.Step step step_begins)) (torn_inhabited n setup)

set_up_inhabited : (n : NameAt) → Inhabited (SetUp n)
set_up_inhabited n = seq_inhabited (Maybe (block_behind Setup)) (Stepped n) (maybe_inhabited (block_behind Setup)) (stepped_inhabited n)

named_inhabited : Inhabited (one a_name ▸ SetUp)
named_inhabited = seq_inhabited (one a_name) SetUp name_inhabited set_up_inhabited

session_begins : Begins what.Session session
session_begins = seq_begins what.Session (one (a_word Session)) (λ _. one a_name ▸ SetUp) (word_begins what.Session Session refl) (λ _. named_inhabited)

torn_local : (n : NameAt) (setup : Option PartTree) (steps : List (StepOf NameAt)) → AreLocal (TornDown n setup steps) (λ r. teardown_at r >>= λ teardown. (Ok (session_of n setup steps teardown.0), teardown.1))
torn_local n setup steps = then {G = Maybe (block_behind Teardown)} {H = λ teardown. gives (session_of n setup steps teardown)} teardown_at (λ teardown. (Ok (session_of n setup steps teardown.0), teardown.1)) teardown_local (λ teardown. gives_inhabited (session_of n setup steps teardown)) (λ teardown. gives_local (session_of n setup steps teardown))

stepped_local : (n : NameAt) (setup : Option PartTree) → AreLocal (Stepped n setup) (λ r. steps_at r >>= λ steps. teardown_at steps.1 >>= λ teardown. (Ok (session_of n setup steps.0 teardown.0), teardown.1))
stepped_local n setup = then {G = some step} {H = TornDown n setup} steps_at (λ steps. teardown_at steps.1 >>= λ teardown. (Ok (session_of n setup steps.0 teardown.0), teardown.1)) steps_local (torn_inhabited n setup) (torn_local n setup)

set_up_local : (n : NameAt) → AreLocal (SetUp n) (λ r. setup_at r >>= λ setup. steps_at setup.1 >>= λ steps. teardown_at steps.1 >>= λ teardown. (Ok (session_of n setup.0 steps.0 teardown.0), teardown.1))
set_up_local n = then {G = Maybe (block_behind Setup)} {H = Stepped n} setup_at (λ setup. steps_at setup.1 >>= λ steps. teardown_at steps.1 >>= λ teardown. (Ok (session_of n setup.0 steps.0 teardown.0), teardown.1)) setup_local (stepped_inhabited n) (stepped_local n)

session_local : LocalFrom (starts_word Session) session session_at
unfolding session_at
session_local = then_from {G = one (a_word Session)} {H = λ _. one a_name ▸ SetUp} (starts_word Session) (word_at Session what.Item)
    (λ d key. name_within d.sessions MOST_SESSIONS key.1 >>= λ n. setup_at n.1 >>= λ setup. steps_at setup.1 >>= λ steps. teardown_at steps.1 >>= λ teardown. (Ok (session_of n.0 setup.0 steps.0 teardown.0), teardown.1)) (word_local Session what.Item) (λ _. named_inhabited)
    (λ d _. then {G = one a_name} {H = SetUp} (name_within d.sessions MOST_SESSIONS) (λ n. setup_at n.1 >>= λ setup. steps_at setup.1 >>= λ steps. teardown_at steps.1 >>= λ teardown. (Ok (session_of n.0 setup.0 steps.0 teardown.0), teardown.1)) (name_within_local d.sessions MOST_SESSIONS) set_up_inhabited set_up_local)

pub session_read : LocalRead session session_at
unfolding session_at next_token
session_read r after s e = session_local r.0 r.1 (was_first (is_keyword Session) what.Item _ r after s e)

pub sessions_local : AreLocal (some session) sessions_at
sessions_local = some_local session what.Session (starts_word Session) (λ k. session_at) session_begins (by_head (is_keyword Session)) (λ c. refl) (first_takes (a_word Session) (λ _. one a_name ▸ SetUp)) (λ k. session_local)

-- ---- markers

no_notices_local : (n : NameAt) → AreLocal (gives (named n)) (no_notices n)
unfolding no_notices
no_notices_local n = choice (starts_word Notices) (λ r. (Err NoticesLeftOut, r)) (λ r. (Ok (named n), r)) (by_head (is_keyword Notices))
    (λ c ts e. at_once (gives (named n)) (Err NoticesLeftOut) c ts ([], named n, (refl, refl), tt))
    (gives_local (named n))

abbrev AStar : Grammar MarkerTree
AStar = one (a_sign Star) ▸ λ _. gives star

abbrev AName : Grammar MarkerTree
AName = one a_name ▸ λ n. gives (named n)

star_is : Within AStar marker
star_is c ts x h = first h

name_is : Within AName marker
name_is c ts x h = second h

marker_inhabited : Inhabited marker
marker_inhabited c = let a = seq_inhabited (one a_name) (λ n. gives (named n)) name_inhabited (λ n. gives_inhabited (named n)) c in (a.0, a.1, second a.2)

pub marker_local : AreLocal marker marker_at
unfolding marker_at
marker_local = choice (starts_sign Star) (λ r. sign_at Star what.Marker r >>= λ key. (Ok star, key.1)) (λ r. name_next what.Marker r >>= λ n. no_notices n.0 n.1) (by_head (is_mark Star))
    (start_wider {G = AStar} {K = marker} (starts_sign Star) (λ r. sign_at Star what.Marker r >>= λ key. (Ok star, key.1)) star_is (start_then {G = one (a_sign Star)} {H = λ _. gives star} (starts_sign Star) (sign_at Star what.Marker) (λ key. (Ok star, key.1)) (sign_local Star what.Marker) (λ _. gives_inhabited star) (λ _. gives_local star)))
    (wider {G = AName} {K = marker} (λ r. name_next what.Marker r >>= λ n. no_notices n.0 n.1) name_is (then {G = one a_name} {H = λ n. gives (named n)} (name_next what.Marker) (λ n. no_notices n.0 n.1) (name_local what.Marker refl) (λ n. gives_inhabited (named n)) no_notices_local))

abbrev NextMarker : Grammar MarkerTree
NextMarker = one (a_sign Comma) ▸ λ _. marker

next_marker_local : LocalFrom (starts_sign Comma) NextMarker next_marker_at
next_marker_local = start_then {G = one (a_sign Comma)} {H = λ _. marker} (starts_sign Comma) (sign_at Comma what.CommaOrClose) (λ comma. marker_at comma.1) (sign_local Comma what.CommaOrClose) (λ _. marker_inhabited) (λ _. marker_local)

next_marker_read : LocalRead NextMarker next_marker_at
unfolding next_token
next_marker_read r after m e = next_marker_local r.0 r.1 (was_first (is_mark Comma) what.CommaOrClose _ r after m e)

pub next_markers_local : AreLocal (Many NextMarker) next_markers_at
next_markers_local = many_local NextMarker (starts_sign Comma) (λ k. next_marker_at) (by_head (is_mark Comma)) (λ c. refl) (first_takes (a_sign Comma) (λ _. marker)) (λ k. next_marker_local)

abbrev Closed : MarkerTree → List MarkerTree → Grammar (List MarkerTree)
Closed m others = one (a_sign Close) ▸ λ _. gives (m ∷ others)

abbrev Marked : MarkerTree → Grammar (List MarkerTree)
Marked m = Many NextMarker ▸ Closed m

closed_inhabited : (m : MarkerTree) (others : List MarkerTree) → Inhabited (Closed m others)
closed_inhabited m others = seq_inhabited (one (a_sign Close)) (λ _. gives (m ∷ others)) (inhabited what.CommaOrClose (one (a_sign Close)) (sign_begins what.CommaOrClose Close refl)) (λ _. gives_inhabited (m ∷ others))

marked_inhabited : (m : MarkerTree) → Inhabited (Marked m)
marked_inhabited m = seq_inhabited (Many NextMarker) (Closed m) (many_inhabited NextMarker) (closed_inhabited m)

opened_inhabited : Inhabited (marker ▸ Marked)
opened_inhabited = seq_inhabited marker Marked marker_inhabited marked_inhabited

closed_local : (m : MarkerTree) (others : List MarkerTree) → AreLocal (Closed m others) (λ r. sign_at Close what.CommaOrClose r >>= λ closed. (Ok (m ∷ others), closed.1))
closed_local m others = then {G = one (a_sign Close)} {H = λ _. gives (m ∷ others)} (sign_at Close what.CommaOrClose) (λ closed. (Ok (m ∷ others), closed.1)) close_local (λ _. gives_inhabited (m ∷ others)) (λ _. gives_local (m ∷ others))

marked_local : (m : MarkerTree) → AreLocal (Marked m) (λ r. next_markers_at r >>= λ others. sign_at Close what.CommaOrClose others.1 >>= λ closed. (Ok (m ∷ others.0), closed.1))
marked_local m = then {G = Many NextMarker} {H = Closed m} next_markers_at (λ others. sign_at Close what.CommaOrClose others.1 >>= λ closed. (Ok (m ∷ others.0), closed.1)) next_markers_local (closed_inhabited m) (closed_local m)

markers_local : LocalFrom (starts_sign Open) markers markers_at
unfolding markers_at
markers_local = start_then {G = one (a_sign Open)} {H = λ _. marker ▸ Marked} (starts_sign Open) (sign_at Open what.Item)
    (λ opened. marker_at opened.1 >>= λ m. next_markers_at m.1 >>= λ others. sign_at Close what.CommaOrClose others.1 >>= λ closed. (Ok (m.0 ∷ others.0), closed.1)) (sign_local Open what.Item) (λ _. opened_inhabited)
    (λ _. then {G = marker} {H = Marked} marker_at (λ m. next_markers_at m.1 >>= λ others. sign_at Close what.CommaOrClose others.1 >>= λ closed. (Ok (m.0 ∷ others.0), closed.1)) marker_local marked_inhabited marked_local)

pub some_markers_local : AreLocal (Maybe markers) some_markers_at
some_markers_local = maybe_local markers (starts_sign Open) markers_at (by_head (is_mark Open)) markers_local

-- ---- permutations

abbrev entry_of : NameAt → Option (List MarkerTree) → NamedEntry
entry_of n ms = record { name = n; markers = unwrap_or ms [] }

after_entry_inhabited : (n : NameAt) → Inhabited (Maybe markers ▸ λ ms. gives (entry_of n ms))
after_entry_inhabited n = seq_inhabited (Maybe markers) (λ ms. gives (entry_of n ms)) (maybe_inhabited markers) (λ ms. gives_inhabited (entry_of n ms))

entry_begins : Begins what.Name entry
entry_begins = seq_begins what.Name (one a_name) (λ n. Maybe markers ▸ λ ms. gives (entry_of n ms)) (name_begins what.Name refl) after_entry_inhabited

pub entry_local : (k : ℕ) → AreLocal entry (entry_at k)
unfolding entry_at
entry_local k = then {G = one a_name} {H = λ n. Maybe markers ▸ λ ms. gives (entry_of n ms)} (name_within k MOST_ENTRIES) (λ n. some_markers_at n.1 >>= λ ms. (Ok (entry_of n.0 ms.0), ms.1)) (name_within_local k MOST_ENTRIES) after_entry_inhabited
    (λ n. then {G = Maybe markers} {H = λ ms. gives (entry_of n ms)} some_markers_at (λ ms. (Ok (entry_of n ms.0), ms.1)) some_markers_local (λ ms. gives_inhabited (entry_of n ms)) (λ ms. gives_local (entry_of n ms)))

pub entries_local : AreLocal (some entry) entries_at
entries_local = some_local entry what.Name starts_name entry_at entry_begins (by_head is_name) (λ c. refl) (first_takes a_name (λ n. Maybe markers ▸ λ ms. gives (entry_of n ms))) (λ k c ts e. entry_local k c ts)

entries_inhabited : Inhabited (some entry)
entries_inhabited = inhabited what.Name (some entry) (some_begins what.Name entry entry_begins)

perm_begins : Begins what.Item perm
perm_begins = seq_begins what.Item (one (a_word Permutation)) (λ _. some entry) (word_begins what.Item Permutation refl) (λ _. entries_inhabited)

perm_local : LocalFrom (starts_word Permutation) perm perm_at
unfolding perm_at
perm_local = start_then {G = one (a_word Permutation)} {H = λ _. some entry} (starts_word Permutation) (word_at Permutation what.Item) (λ key. entries_at key.1) (word_local Permutation what.Item) (λ _. entries_inhabited) (λ _. entries_local)

pub perm_read : LocalRead perm perm_at
unfolding perm_at next_token
perm_read r after es e = perm_local r.0 r.1 (was_first (is_keyword Permutation) what.Item _ r after es e)

pub perms_local : AreLocal (Many perm) perms_at
perms_local = many_local perm (starts_word Permutation) (λ k. perm_at) (by_head (is_keyword Permutation)) (λ c. refl) (first_takes (a_word Permutation) (λ _. some entry)) (λ k. perm_local)

-- ---- the file

no_head : (t : At SpecToken) → ◌≡◌ {A = Option (At SpecToken)} (Some t) None → ⊥
no_head t e = cc

not_none : (t : At SpecToken) → ◌≡◌ {A = Option (At SpecToken)} None (Some t) → ⊥
not_none t e = cc

nothing_there : (c : Counts) (others : List (At SpecToken)) → head others ≡ None → end_at (c, others) ≡ (Ok tt, (c, others))
unfolding end_at
nothing_there c [] h = refl
nothing_there c (t ∷ others) h = absurd (no_head t h)

something_there : (c : Counts) (t : At SpecToken) (others : List (At SpecToken)) → head others ≡ Some t → end_at (c, others) ≡ (Err (Expected what.Item), (c, others))
unfolding end_at
something_there c t [] h = absurd (not_none t h)
something_there c t (s ∷ others) h = refl

abbrev file_of : List PartTree → Option PartTree → List (SessionOf NameAt) → List (List NamedEntry) → FileTree
file_of setups teardown sessions perms = record { setups = setups; teardown = teardown; sessions = sessions; perms = perms }

abbrev Permuted : List PartTree → Option PartTree → List (SessionOf NameAt) → Grammar FileTree
Permuted setups teardown sessions = Many perm ▸ λ perms. gives (file_of setups teardown sessions perms)

abbrev Held : List PartTree → Option PartTree → Grammar FileTree
Held setups teardown = some session ▸ Permuted setups teardown

abbrev Ended : List PartTree → Grammar FileTree
Ended setups = Maybe (block_behind Teardown) ▸ Held setups

-- where a file may end, more permutations may follow too
abbrev GoesOn : List PartTree → Option PartTree → List (SessionOf NameAt) → List (List NamedEntry) → Grammar FileTree
GoesOn setups teardown sessions perms = Many perm ▸ λ others. gives (file_of setups teardown sessions (perms ++ others))

goes_on_is : (setups : List PartTree) (teardown : Option PartTree) (sessions : List (SessionOf NameAt)) → Within (Many perm ▸ GoesOn setups teardown sessions) (Permuted setups teardown sessions)
goes_on_is setups teardown sessions c ts f (perms, xs, ys, e, h, (others, us, vs, d, k, (nothing, is))) =
    (perms ++ others, xs ++ us, [], e ∙ ap (λ (r : List (At SpecToken)). xs ++ r) (d ∙ ap (λ (r : List (At SpecToken)). us ++ r) nothing) ∙ sym (append_assoc xs us []), many_twice perm c xs us perms others h k, (refl, is))

goes_on_begins : (setups : List PartTree) (teardown : Option PartTree) (sessions : List (SessionOf NameAt)) (perms : List (List NamedEntry)) → Begins what.Item (GoesOn setups teardown sessions perms)
goes_on_begins setups teardown sessions perms = seq_begins what.Item (Many perm) (λ others. gives (file_of setups teardown sessions (perms ++ others))) (many_begins what.Item perm perm_begins) (λ others. gives_inhabited (file_of setups teardown sessions (perms ++ others)))

ended_local : (setups : List PartTree) (teardown : Option PartTree) (sessions : List (SessionOf NameAt)) (perms : List (List NamedEntry)) → AreLocal (GoesOn setups teardown sessions perms) (λ r. end_at r >>= λ ended. (Ok (file_of setups teardown sessions perms), ended.1))
ended_local setups teardown sessions perms c [] = record {
  out = Ok (file_of setups teardown sessions perms);
  front = [];
  rest = [];
  split = refl;
  local = λ others h. ap (λ r. r >>= λ ended. (Ok (file_of setups teardown sessions perms), ended.1)) (nothing_there c others h);
  means = ([], [], [], refl, none, (refl, ap (file_of setups teardown sessions) (sym (append-nil perms))));
}
ended_local setups teardown sessions perms c (t ∷ ts) = record {
  out = Err (Expected what.Item);
  front = [];
  rest = t ∷ ts;
  split = refl;
  local = λ others h. ap (λ r. r >>= λ ended. (Ok (file_of setups teardown sessions perms), ended.1)) (something_there c t others h);
  means = goes_on_begins setups teardown sessions perms c;
}

permuted_inhabited : (setups : List PartTree) (teardown : Option PartTree) (sessions : List (SessionOf NameAt)) → Inhabited (Permuted setups teardown sessions)
permuted_inhabited setups teardown sessions = seq_inhabited (Many perm) (λ perms. gives (file_of setups teardown sessions perms)) (many_inhabited perm) (λ perms. gives_inhabited (file_of setups teardown sessions perms))

held_inhabited : (setups : List PartTree) (teardown : Option PartTree) → Inhabited (Held setups teardown)
held_inhabited setups teardown = seq_inhabited (some session) (Permuted setups teardown) (inhabited what.Session (some session) (some_begins what.Session session session_begins)) (permuted_inhabited setups teardown)

torn_file_inhabited : (setups : List PartTree) → Inhabited (Ended setups)
torn_file_inhabited setups = seq_inhabited (Maybe (block_behind Teardown)) (Held setups) (maybe_inhabited (block_behind Teardown)) (held_inhabited setups)

permuted_local : (setups : List PartTree) (teardown : Option PartTree) (sessions : List (SessionOf NameAt)) → AreLocal (Permuted setups teardown sessions) (λ r. perms_at r >>= λ perms. end_at perms.1 >>= λ ended. (Ok (file_of setups teardown sessions perms.0), ended.1))
permuted_local setups teardown sessions = wider {G = Many perm ▸ GoesOn setups teardown sessions} {K = Permuted setups teardown sessions} (λ r. perms_at r >>= λ perms. end_at perms.1 >>= λ ended. (Ok (file_of setups teardown sessions perms.0), ended.1)) (goes_on_is setups teardown sessions)
    (then {G = Many perm} {H = GoesOn setups teardown sessions} perms_at (λ perms. end_at perms.1 >>= λ ended. (Ok (file_of setups teardown sessions perms.0), ended.1)) perms_local (λ perms. inhabited what.Item (GoesOn setups teardown sessions perms) (goes_on_begins setups teardown sessions perms)) (ended_local setups teardown sessions))

held_local : (setups : List PartTree) (teardown : Option PartTree) → AreLocal (Held setups teardown) (λ r. sessions_at r >>= λ sessions. perms_at sessions.1 >>= λ perms. end_at perms.1 >>= λ ended. (Ok (file_of setups teardown sessions.0 perms.0), ended.1))
held_local setups teardown = then {G = some session} {H = Permuted setups teardown} sessions_at (λ sessions. perms_at sessions.1 >>= λ perms. end_at perms.1 >>= λ ended. (Ok (file_of setups teardown sessions.0 perms.0), ended.1)) sessions_local (permuted_inhabited setups teardown) (permuted_local setups teardown)

torn_file_local : (setups : List PartTree) → AreLocal (Ended setups) (λ r. teardown_at r >>= λ teardown. sessions_at teardown.1 >>= λ sessions. perms_at sessions.1 >>= λ perms. end_at perms.1 >>= λ ended. (Ok (file_of setups teardown.0 sessions.0 perms.0), ended.1))
torn_file_local setups = then {G = Maybe (block_behind Teardown)} {H = Held setups} teardown_at (λ teardown. sessions_at teardown.1 >>= λ sessions. perms_at sessions.1 >>= λ perms. end_at perms.1 >>= λ ended. (Ok (file_of setups teardown.0 sessions.0 perms.0), ended.1)) teardown_local (held_inhabited setups) (held_local setups)

pub file_local : AreLocal file file_at
unfolding file_at
file_local = then {G = Many (block_behind Setup)} {H = Ended} setups_at (λ setups. teardown_at setups.1 >>= λ teardown. sessions_at teardown.1 >>= λ sessions. perms_at sessions.1 >>= λ perms. end_at perms.1 >>= λ ended. (Ok (file_of setups.0 teardown.0 sessions.0 perms.0), ended.1)) setups_local torn_file_inhabited torn_file_local

-- ---- what is read is shorter

pub block_shorter : (k : Keyword) (r after : Rest) (b : PartTree) → block_after k r ≡ (Ok b, after) → length after.1 < length r.1
block_shorter k = shortens (block_behind k) (block_after k) (first_takes (a_word k) (λ _. one a_block)) (block_after_read k)

pub step_shorter : (r after : Rest) (s : StepOf NameAt) → step_at r ≡ (Ok s, after) → length after.1 < length r.1
step_shorter = shortens step step_at (first_takes (a_word Step) (λ _. one a_name ▸ λ n. one a_block ▸ λ b. gives (step_of n b))) step_read

pub session_shorter : (r after : Rest) (s : SessionOf NameAt) → session_at r ≡ (Ok s, after) → length after.1 < length r.1
session_shorter = shortens session session_at (first_takes (a_word Session) (λ _. one a_name ▸ SetUp)) session_read

pub next_marker_shorter : (r after : Rest) (m : MarkerTree) → next_marker_at r ≡ (Ok m, after) → length after.1 < length r.1
next_marker_shorter = shortens NextMarker next_marker_at (first_takes (a_sign Comma) (λ _. marker)) next_marker_read

pub entry_shorter : (k : ℕ) (r after : Rest) (e : NamedEntry) → entry_at k r ≡ (Ok e, after) → length after.1 < length r.1
entry_shorter k = shortens entry (entry_at k) (first_takes a_name (λ n. Maybe markers ▸ λ ms. gives (entry_of n ms))) (local_read (entry_local k))

pub perm_shorter : (r after : Rest) (es : List NamedEntry) → perm_at r ≡ (Ok es, after) → length after.1 < length r.1
perm_shorter = shortens perm perm_at (first_takes (a_word Permutation) (λ _. some entry)) perm_read
