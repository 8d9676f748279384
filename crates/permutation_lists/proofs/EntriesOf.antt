-- Entries of turns, and how long the lists of turns are.
use Rattle.std.proofs.Common.{◌≡◌, ℕ, zero, suc, ◌+◌, ◌<◌, ◌≤◌, ◌^◌, Bool, List, [], ◌∷◌, ◌++◌, map, flat_map, sum, length, true, false, take, get_or, refl, sym, ap, subst, ◌∙◌, arith, append_assoc}
use Rattle.std.specs.Prelude.{◌==◌, if◌then◌else◌, count_by}
use Rattle.std.proofs.lemmas.List.{take_more, take_all, take-append-le, length-append, map-append, get_or-map, length-map}
use Rattle.std.proofs.lemmas.List.Folds.{length-flat_map-take}
use Rattle.std.proofs.lemmas.List.Sums.{sum-map}
use Rattle.std.specs.List.{AllByRecursion, enumerate_from}
use Rattle.std.proofs.lemmas.List.{append-nil}
use Rattle.std.proofs.lemmas.List.Concat.{length-flat_map}
use Rattle.iso_lexer.specs.declared.limits.TheConstants.{MOST_STEPS}
use Rattle.permutation_lists.specs.Inner.Prefixes.{each_first}
use Rattle.permutation_lists.specs.Interleavings.{of_length, without, interleavings}
use Rattle.std.specs.Global.{Vec}
use Rattle.spec_parser.specs.declared.tree.Entry.{Entry}
use Rattle.spec_parser.specs.declared.tree.Spec.{Spec}
use Rattle.spec_parser.specs.declared.tree.SessionPart.{SessionPart}
use Rattle.spec_parser.specs.Trees.{EntryTree, SessionTree, entry_view, perm_view, step_view, session_view, spec_view}
use Rattle.permutation_lists.specs.Permutations.{entries_of, permutations_of}
use Rattle.permutation_lists.proofs.First.{with_turn}
use Rattle.permutation_lists.specs.Inner.Ways.{AreShort}

-- how many steps a session has
abbrev pub step_count : SessionTree → ℕ
step_count s = length s.steps

-- the entry of a session's turn, after the turns before it
abbrev pub entry_after : List ℕ → ℕ → EntryTree
entry_after before session = record { session = session; step = count_by (λ x. x == session) before; markers = [] }

-- the entries of turns, behind those before them
abbrev entries_after : List ℕ → List ℕ → List EntryTree
entries_after before [] = []
entries_after before (session ∷ turns) = entry_after before session ∷ entries_after (before ++ session ∷ []) turns

-- the entry of a turn by its place
abbrev at_place : List ℕ → ℕ × ℕ → EntryTree
at_place all p = entry_after (take p.0 all) p.1

-- a front of turns
front_is : (before turns : List ℕ) → take (length before) (before ++ turns) ≡ before
front_is before turns = take-append-le (length before) before turns (omega arith) ∙ take_all (length before) before (omega arith)

by_place : (before turns : List ℕ) → entries_after before turns ≡ map (at_place (before ++ turns)) (enumerate_from (length before) turns)
by_place before [] = refl
by_place before (session ∷ turns) =
    let next : length (before ++ session ∷ []) ≡ length before + 1 = length-append before (session ∷ []) in
    ap (λ (b : List ℕ). entry_after b session ∷ entries_after (before ++ session ∷ []) turns) (sym (front_is before (session ∷ turns)))
    ∙ ap (λ (es : List EntryTree). entry_after (take (length before) (before ++ session ∷ turns)) session ∷ es)
    (by_place (before ++ session ∷ []) turns
    ∙ ap (λ (all : List ℕ). map (at_place all) (enumerate_from (length (before ++ session ∷ [])) turns)) (append_assoc before (session ∷ []) turns)
    ∙ ap (λ (n : ℕ). map (at_place (before ++ session ∷ turns)) (enumerate_from n turns)) next)

-- one more turn is one more entry
entries_push : (before turns : List ℕ) (session : ℕ) → entries_after before (turns ++ session ∷ []) ≡ entries_after before turns ++ entry_after (before ++ turns) session ∷ []
entries_push before [] session = ap (λ (b : List ℕ). entry_after b session ∷ []) (sym (append-nil before))
entries_push before (turn ∷ turns) session =
    ap (λ (es : List EntryTree). entry_after before turn ∷ es)
    (entries_push (before ++ turn ∷ []) turns session ∙ ap (λ (b : List ℕ). entries_after (before ++ turn ∷ []) turns ++ entry_after b session ∷ []) (append_assoc before (turn ∷ []) turns))

pub one_more : (turns : List ℕ) (session : ℕ) → entries_of (turns ++ session ∷ []) ≡ entries_of turns ++ entry_after turns session ∷ []
one_more turns session =
    sym (by_place [] (turns ++ session ∷ [])) ∙ entries_push [] turns session
    ∙ ap (λ (es : List EntryTree). es ++ entry_after turns session ∷ []) (by_place [] turns)

-- ---- lengths

abbrev HasLength : ℕ → List ℕ → Type 0
HasLength n list = length list ≡ n

all_append : (P : List ℕ → Type 0) (xs ys : List (List ℕ)) → AllByRecursion P xs → AllByRecursion P ys → AllByRecursion P (xs ++ ys)
all_append P [] ys a b = b
all_append P (x ∷ xs) ys a b = (a.0, all_append P xs ys a.1 b)

all_behind : (n x : ℕ) (lists : List (List ℕ)) → AllByRecursion (HasLength n) lists → AllByRecursion (HasLength (suc n)) (map (λ (list : List ℕ). x ∷ list) lists)
all_behind n x [] a = tt
all_behind n x (list ∷ lists) a = (ap suc a.0, all_behind n x lists a.1)

all_first : (n : ℕ) (rest : List ℕ → List (List ℕ)) → ((counts : List ℕ) → AllByRecursion (HasLength n) (rest counts)) → (counts : List ℕ) (session : ℕ) (more : List ℕ) → AllByRecursion (HasLength (suc n)) (each_first rest counts session more)
all_first n rest h counts session [] = tt
all_first n rest h counts session (zero ∷ more) = all_first n rest h counts (session + 1) more
all_first n rest h counts session (suc c ∷ more) =
    subst (AllByRecursion (HasLength (suc n))) (sym (with_turn rest counts session c more))
    (all_append (HasLength (suc n)) _ _ (all_behind n session (rest (without counts session)) (h (without counts session))) (all_first n rest h counts (session + 1) more))

have_length : (n : ℕ) (counts : List ℕ) → AllByRecursion (HasLength n) (of_length n counts)
have_length zero counts = (refl, tt)
have_length (suc n) counts = all_first n (of_length n) (have_length n) counts 0 counts

all_short : (n : ℕ) (lists : List (List ℕ)) → n < 2 ^ 32 → AllByRecursion (HasLength n) lists → AreShort lists
all_short n [] lt a = tt
all_short n (list ∷ lists) lt a = (omega (arith, a.0, lt), all_short n lists lt a.1)

-- an interleaving is as long as there are steps
pub short_interleavings : (counts : List ℕ) → sum counts < 2 ^ 32 → AreShort (interleavings counts)
short_interleavings counts lt = all_short (sum counts) (interleavings counts) lt (have_length (sum counts) (0 ∷ counts))

-- ---- the code's lists

pub entries_more : (turns : List ℕ) (i : ℕ) (es new : List Entry) (e : Entry) (before : List ℕ) (session : ℕ) → i < length turns → entry_view e ≡ entry_after before session → before ≡ take i turns → session ≡ get_or turns i 0
    → map entry_view es ≡ entries_of (take i turns) → new ≡ es ++ e ∷ [] → map entry_view new ≡ entries_of (take (i + 1) turns)
entries_more turns i es new e before session lt this b s so is =
    ap (map entry_view) is ∙ map-append entry_view es (e ∷ []) ∙ ap (λ (xs : List EntryTree). xs ++ entry_view e ∷ []) so
    ∙ ap (λ (x : EntryTree). entries_of (take i turns) ++ x ∷ []) (this ∙ ap (λ (q : List ℕ). entry_after q session) b ∙ ap (entry_after (take i turns)) s)
    ∙ sym (one_more (take i turns) (get_or turns i 0)) ∙ ap entries_of (sym (take_more turns i 0 lt))

-- no session has more steps than there are
pub few_steps : (ss : List SessionPart) (i : ℕ) (s : SessionPart) → i < length ss → s ≡ get_or ss i s → length s.steps.items ≤ length (flat_map (λ (x : SessionTree). x.steps) (map session_view ss))
few_steps ss i s lt is =
    let here : get_or (map session_view ss) i (session_view s) ≡ session_view s = get_or-map session_view ss i s (session_view s) lt ∙ ap session_view (sym is) in
    let within : i < length (map session_view ss) = omega (arith, length-map ss session_view) in
    let some = length-flat_map-take (λ (x : SessionTree). x.steps) (map session_view ss) i (session_view s) within in
    let same : length (get_or (map session_view ss) i (session_view s)).steps ≡ length s.steps.items = ap (λ (x : SessionTree). length x.steps) here ∙ length-map s.steps.items step_view in
    omega (arith, some, same)

-- as many turns as steps
pub all_steps : (ss : List SessionTree) → sum (map step_count ss) ≡ length (flat_map (λ (x : SessionTree). x.steps) ss)
all_steps ss = sum-map step_count ss ∙ sym (length-flat_map (λ (x : SessionTree). x.steps) ss)

pub few_turns : (ss : List SessionTree) → length (flat_map (λ (x : SessionTree). x.steps) ss) ≤ MOST_STEPS → AreShort (interleavings (map step_count ss))
few_turns ss few = short_interleavings (map step_count ss) (omega (arith, all_steps ss, few))

-- ---- lines, or all

-- as many lines as the spec has permutations
none_there : (spec : Spec) (lines : List (Vec Entry)) → lines ≡ spec.perms.items → (length lines == 0) ≡ (length (map perm_view spec.perms.items) == 0)
none_there spec lines same = ap (λ (ls : List (Vec Entry)). length ls == 0) same ∙ ap (λ (n : ℕ). n == 0) (sym (length-map spec.perms.items perm_view))

pub lines_there : (spec : Spec) (lines : List (Vec Entry)) → lines ≡ spec.perms.items → false ≡ (length lines == 0) → map perm_view lines ≡ permutations_of (spec_view spec)
unfolding permutations_of
lines_there spec lines same some =
    let all = map entries_of (interleavings (map step_count (spec_view spec).sessions)) in
    ap (map perm_view) same ∙ ap (λ (none : Bool). if none then all else map perm_view spec.perms.items) (some ∙ none_there spec lines same)

pub no_lines : (spec : Spec) (lines : List (Vec Entry)) → lines ≡ spec.perms.items → true ≡ (length lines == 0) → map entries_of (interleavings (map step_count (spec_view spec).sessions)) ≡ permutations_of (spec_view spec)
unfolding permutations_of
no_lines spec lines same none =
    let all = map entries_of (interleavings (map step_count (spec_view spec).sessions)) in
    ap (λ (none : Bool). if none then all else map perm_view spec.perms.items) (none ∙ none_there spec lines same)
