-- What is said of the orders of a permutation is what is said of its setups and teardowns in turn.
use Rattle.std.proofs.Common.{◌≡◌, ℕ, zero, suc, ◌+◌, ◌-◌, ◌<◌, ◌≤◌, ◌⊎◌, inl, inr, List, [], ◌∷◌, ◌++◌, Bool, true, false, cond, length, take, drop, refl, sym, ap, ap₂, ◌∙◌, arith, append_assoc, append-nil, length-append}
use Rattle.std.specs.Prelude.{nat_le, map, filter_map, flat_map, replicate, Option, Some, None, is_some, option_map, option_to_list, if◌then◌else◌}
use Rattle.std.specs.List.{enumerate_from, range_with_len, filter, fold, cons_option}
use Rattle.std.proofs.lemmas.Bool.{cases_lt}
use Rattle.std.proofs.lemmas.List.{length-map}
use Rattle.std.proofs.lemmas.List.Sums.{fold-append}
use Rattle.session_machine.specs.declared.event.Order.{Order}
use Rattle.session_machine.specs.declared.event.Order.TheVariants.{Launch, Leave, Stop}
use Rattle.session_machine.specs.declared.reply.HistItem.{HistItem}
use Rattle.session_machine.specs.declared.reply.Outcome.{Outcome}
use Rattle.session_machine.specs.declared.reply.Outcome.TheVariants.{Failed}
use Rattle.spec_parser.specs.Trees.{PartTree, EntryTree, SessionTree, SpecTree}
use Rattle.report_lines.specs.declared.history.PlannedLaunch.{PlannedLaunch}
use Rattle.report_lines.specs.declared.history.RunState.{RunState}
use Rattle.report_lines.specs.declared.history.RunState.TheVariants.{Due, Whole, Invalid}
use Rattle.report_lines.specs.Report.{report}
use Rattle.report_lines.specs.Due.{segment, is_over, went_well, orders, launch}
use Rattle.report_lines.specs.Orders.{launch_in, own_launches, setups_of, launch_of_entry, closing_of, with_leaves, orders_of}
use Rattle.report_text.specs.Replies.{rows_text, last_outcome}
use Rattle.report_text.specs.Steps.{starting_text}
use Rattle.report_text.specs.LineText.{line_text}
use Rattle.report_text.specs.Said.{Ending, whole, invalid, setup_failed, setup_waits, too_many, Said, says, only_ends, ◌>>◌}
use Rattle.report_text.specs.Setups.{setup_says}
use Rattle.report_text.specs.Teardowns.{teardown_says}
use Rattle.report_text.specs.Permutation.{permutation_says}
use Rattle.report_text.specs.Code.Turns.{in_turn, setup_numbers, teardown_numbers, setup_ending, setup_turn, teardown_turn, state_says, permutation_in_turn}
use Rattle.report_text.proofs.Saying.{permutation_run}

-- ---- one thing after another

nothing_after : (t n : List ℕ) (e : Ending) → (let a : Said = record { text = t; notes = n; ending = e } in (a >> says []) ≡ a)
nothing_after t n whole = ap₂ (λ (x y : List ℕ). let s : Said = record { text = x; notes = y; ending = whole } in s) (append-nil t) (append-nil n)
nothing_after t n invalid = refl
nothing_after t n (setup_failed why) = refl
nothing_after t n setup_waits = refl
nothing_after t n too_many = refl

both_whole : (t n u m : List ℕ) (e : Ending) (c : Said) → (let a : Said = record { text = t; notes = n; ending = whole } in let b : Said = record { text = u; notes = m; ending = e } in
    ((a >> b) >> c) ≡ (a >> (b >> c)))
both_whole t n u m whole c =
    ap₂ (λ (x y : List ℕ). let s : Said = record { text = x; notes = y; ending = c.ending } in s) (append_assoc t u c.text) (append_assoc n m c.notes)
both_whole t n u m invalid c = refl
both_whole t n u m (setup_failed why) c = refl
both_whole t n u m setup_waits c = refl
both_whole t n u m too_many c = refl

then_assoc : (t n : List ℕ) (e : Ending) (b c : Said) → (let a : Said = record { text = t; notes = n; ending = e } in ((a >> b) >> c) ≡ (a >> (b >> c)))
then_assoc t n whole b c = both_whole t n b.text b.notes b.ending c
then_assoc t n invalid b c = refl
then_assoc t n (setup_failed why) b c = refl
then_assoc t n setup_waits b c = refl
then_assoc t n too_many b c = refl

-- from the last one to the first
abbrev pub chain : List Said → Said
chain [] = says []
chain (a ∷ more) = a >> chain more

fold_chain : (a : Said) (more : List Said) → fold (λ x y. x >> y) a more ≡ (a >> chain more)
fold_chain a [] = sym (nothing_after a.text a.notes a.ending)
fold_chain a (b ∷ more) = fold_chain (a >> b) more ∙ then_assoc a.text a.notes a.ending b (chain more)

-- ---- numbers

take_numbers : {A : Type 0} (m k : ℕ) (xs : List A) → take m (enumerate_from k xs) ≡ enumerate_from k (take m xs)
take_numbers zero k xs = refl
take_numbers (suc m) k [] = refl
take_numbers (suc m) k (x ∷ xs) = ap (λ ys. (k, x) ∷ ys) (take_numbers m (k + 1) xs)

drop_numbers : {A : Type 0} (m k : ℕ) (xs : List A) → drop m (enumerate_from k xs) ≡ enumerate_from (k + m) (drop m xs)
drop_numbers zero k xs = let e : k ≡ k + 0 = omega arith in ap (λ j. enumerate_from j xs) e
drop_numbers (suc m) k [] = refl
drop_numbers (suc m) k (x ∷ xs) = let e : (k + 1) + m ≡ k + suc m = omega arith in drop_numbers m (k + 1) xs ∙ ap (λ j. enumerate_from j (drop m xs)) e

front_of : {A : Type 0} (n : ℕ) (xs ys : List A) → take (length xs) (take n (xs ++ ys)) ≡ take n xs
front_of zero [] ys = refl
front_of zero (x ∷ xs) ys = refl
front_of (suc n) [] ys = refl
front_of (suc n) (x ∷ xs) ys = ap (λ zs. x ∷ zs) (front_of n xs ys)

back_of : {A : Type 0} (n : ℕ) (xs ys : List A) → drop (length xs) (take n (xs ++ ys)) ≡ take (n - length xs) ys
back_of n [] ys = let e : n ≡ n - 0 = omega arith in ap (λ j. take j ys) e
back_of zero (x ∷ xs) ys = let e : 0 ≡ 0 - suc (length xs) = omega arith in ap (λ j. take j ys) e
back_of (suc n) (x ∷ xs) ys = let e : n - length xs ≡ suc n - suc (length xs) = omega arith in back_of n xs ys ∙ ap (λ j. take j ys) e

-- ---- setups

ending_is : (o : Outcome) → (elim o as (λ _. Ending) [ Failed fault ↦ setup_ending (Failed fault) | _ ↦ setup_waits ]) ≡ setup_ending o
ending_is (Failed fault) = refl
ending_is o = refl

turn_is : (items : List HistItem) (k : ℕ) (t : PlannedLaunch) → setup_says items k (launch t) ≡ (setup_turn items t.session k).0
turn_is items k t =
    ap (λ (e : Ending). if went_well items k t.session then says (rows_text (last_outcome (segment items k))) else only_ends e) (ending_is (last_outcome (segment items k)))

abbrev pub session_in : PlannedLaunch → ℕ
session_in t = t.session

-- what the setups say that are there
abbrev pub setups_there : List HistItem → ℕ → ℕ → List Order → Said
setups_there items n k os = chain (map (λ p. setup_says items p.0 p.1) (enumerate_from k (take (n - k) os)))

setup_case : (items : List HistItem) (n k : ℕ) (t : PlannedLaunch) (ts : List PlannedLaunch) → setups_there items n (k + 1) (map launch ts) ≡ in_turn n (k + 1) (map (setup_turn items) (map session_in ts)) → (k < n) ⊎ (n ≤ k)
    → setups_there items n k (map launch (t ∷ ts)) ≡ in_turn n k (map (setup_turn items) (map session_in (t ∷ ts)))
setup_case items n k t ts rest (inl lt) =
    let some : nat_le n k ≡ false = grind arith in
    let more : n - k ≡ suc (n - (k + 1)) = omega arith in
    rw (some, more) (ap₂ (λ (a b : Said). a >> b) (turn_is items k t) rest)
setup_case items n k t ts rest (inr le) =
    let gone : nat_le n k ≡ true = grind arith in
    let none : n - k ≡ 0 = omega arith in
    rw (gone, none) refl

setups_turn : (items : List HistItem) (n k : ℕ) (ts : List PlannedLaunch) → setups_there items n k (map launch ts) ≡ in_turn n k (map (setup_turn items) (map session_in ts))
setups_turn items n k [] = elim (n - k) as (λ m. chain (map (λ p. setup_says items p.0 p.1) (enumerate_from k (take m []))) ≡ says []) [ zero ↦ refl | suc m ↦ refl ]
setups_turn items n k (t ∷ ts) = setup_case items n k t ts (setups_turn items n (k + 1) ts) (cases_lt k n)

-- ---- teardowns

abbrev kind : Order → Option ℕ
kind (Launch session block) = Some session
kind (Leave session) = None
kind Stop = None

abbrev pub teardowns_there : List SessionTree → List HistItem → ℕ → ℕ → List Order → Said
teardowns_there sessions items n k os = chain (map (λ p. teardown_says sessions items p.0 p.1) (enumerate_from k (take (n - k) (with_leaves items k os))))

none_turn : (sessions : List SessionTree) (items : List HistItem) (n k : ℕ) (os : List Order) → n ≤ k → says [] ≡ in_turn n k (map (teardown_turn sessions items) (map kind os))
none_turn sessions items n k [] le = refl
none_turn sessions items n k (o ∷ os) le = let gone : nat_le n k ≡ true = grind arith in rw gone refl

leave_case : (sessions : List SessionTree) (items : List HistItem) (n k session : ℕ) (os : List Order) (others : Said) → teardowns_there sessions items n (k + 1) os ≡ others → (n ≤ k → says [] ≡ others) → (k < n) ⊎ (n ≤ k)
    → chain (map (λ p. teardown_says sessions items p.0 p.1) (enumerate_from k (take (n - k) (Leave session ∷ with_leaves items (k + 1) os)))) ≡ others
leave_case sessions items n k session os others rest none (inl lt) = let more : n - k ≡ suc (n - (k + 1)) = omega arith in rw more rest
leave_case sessions items n k session os others rest none (inr le) = let gone : n - k ≡ 0 = omega arith in rw gone (none le)

over_case : (sessions : List SessionTree) (items : List HistItem) (n k session : ℕ) (os : List Order) (over : Bool) (a b : Said) → (let rest = map (teardown_turn sessions items) (map kind os) in
    teardowns_there sessions items n (k + 1) os ≡ in_turn n (k + 1) rest → teardowns_there sessions items n (k + 2) os ≡ in_turn n (k + 2) rest
    → ((if over then a else b) >> chain (map (λ p. teardown_says sessions items p.0 p.1) (enumerate_from (k + 1) (take (n - (k + 1)) (if over then with_leaves items (k + 1) os else Leave session ∷ with_leaves items (k + 2) os)))))
    ≡ (let p : Said × ℕ = if over then (a, 1) else (b, 2) in p.0 >> in_turn n (k + p.1) rest))
over_case sessions items n k session os true a b one two = ap (λ (s : Said). a >> s) one
over_case sessions items n k session os false a b one two =
    let next : k + 2 ≡ (k + 1) + 1 = omega arith in
    let rest = map (teardown_turn sessions items) (map kind os) in
    ap (λ (s : Said). b >> s)
    (ap (λ j. chain (map (λ p. teardown_says sessions items p.0 p.1) (enumerate_from (k + 1) (take (n - (k + 1)) (Leave session ∷ with_leaves items j os))))) next
    ∙ leave_case sessions items n (k + 1) session os (in_turn n (k + 2) rest) (ap (λ j. teardowns_there sessions items n j os) (sym next) ∙ two)
    (λ le. none_turn sessions items n (k + 2) os (omega (arith, le))) (cases_lt (k + 1) n))

order_case : (sessions : List SessionTree) (items : List HistItem) (n k : ℕ) (o : Order) (os : List Order) → (let rest = map (teardown_turn sessions items) (map kind os) in
    ((j : ℕ) → teardowns_there sessions items n j os ≡ in_turn n j rest) → (k < n) ⊎ (n ≤ k)
    → teardowns_there sessions items n k (o ∷ os) ≡ in_turn n k (teardown_turn sessions items (kind o) ∷ rest))
order_case sessions items n k (Launch session block) os rest (inl lt) =
    let some : nat_le n k ≡ false = grind arith in
    let more : n - k ≡ suc (n - (k + 1)) = omega arith in
    rw (some, more) (over_case sessions items n k session os (is_over items k session) _ _ (rest (k + 1)) (rest (k + 2)))
order_case sessions items n k (Leave session) os rest (inl lt) =
    let some : nat_le n k ≡ false = grind arith in
    let more : n - k ≡ suc (n - (k + 1)) = omega arith in
    rw (some, more) (rest (k + 1))
order_case sessions items n k Stop os rest (inl lt) =
    let some : nat_le n k ≡ false = grind arith in
    let more : n - k ≡ suc (n - (k + 1)) = omega arith in
    rw (some, more) (rest (k + 1))
order_case sessions items n k o os rest (inr le) =
    let gone : nat_le n k ≡ true = grind arith in
    let none : n - k ≡ 0 = omega arith in
    rw (gone, none) refl

teardowns_turn : (sessions : List SessionTree) (items : List HistItem) (n k : ℕ) (os : List Order) → teardowns_there sessions items n k os ≡ in_turn n k (map (teardown_turn sessions items) (map kind os))
teardowns_turn sessions items n k [] = elim (n - k) as (λ m. chain (map (λ p. teardown_says sessions items p.0 p.1) (enumerate_from k (take m []))) ≡ says []) [ zero ↦ refl | suc m ↦ refl ]
teardowns_turn sessions items n k (o ∷ os) = order_case sessions items n k o os (λ j. teardowns_turn sessions items n j os) (cases_lt k n)

-- ---- whose they are

abbrev pub planned_in : ℕ → PartTree → PlannedLaunch
planned_in session part = record { session = session; block = part.block }

abbrev pub own_planned : (SessionTree → Option PartTree) → ℕ → List SessionTree → List PlannedLaunch
own_planned part a sessions = filter_map (λ (p : ℕ × SessionTree). option_map (planned_in p.0) (part p.1)) (enumerate_from a sessions)

abbrev pub setups_planned : SpecTree → List PlannedLaunch
setups_planned spec = map (planned_in 0) spec.setups ++ own_planned (λ s. s.setup) 1 spec.sessions

map_append : {A B : Type 0} (f : A → B) (xs ys : List A) → map f (xs ++ ys) ≡ map f xs ++ map f ys
map_append f [] ys = refl
map_append f (x ∷ xs) ys = ap (λ zs. f x ∷ zs) (map_append f xs ys)

pub parts_launch : (ps : List PartTree) → map (launch_in 0) ps ≡ map launch (map (planned_in 0) ps)
parts_launch [] = refl
parts_launch (p ∷ ps) = ap (λ os. launch_in 0 p ∷ os) (parts_launch ps)

pub own_launch : (part : SessionTree → Option PartTree) (a : ℕ) (sessions : List SessionTree)
    → filter_map (λ (p : ℕ × SessionTree). option_map (launch_in p.0) (part p.1)) (enumerate_from a sessions) ≡ map launch (own_planned part a sessions)
own_launch part a [] = refl
own_launch part a (s ∷ ss) = elim (part s) as (λ o. cons_option (option_map (launch_in a) o) (filter_map (λ (p : ℕ × SessionTree). option_map (launch_in p.0) (part p.1)) (enumerate_from (a + 1) ss))
    ≡ map launch (cons_option (option_map (planned_in a) o) (own_planned part (a + 1) ss))) [ None ↦ own_launch part (a + 1) ss | Some x ↦ ap (λ os. launch_in a x ∷ os) (own_launch part (a + 1) ss) ]

pub setups_launch : (spec : SpecTree) → setups_of spec ≡ map launch (setups_planned spec)
setups_launch spec =
    ap₂ (λ (xs ys : List Order). xs ++ ys) (parts_launch spec.setups) (own_launch (λ s. s.setup) 1 spec.sessions)
    ∙ sym (map_append launch (map (planned_in 0) spec.setups) (own_planned (λ s. s.setup) 1 spec.sessions))

own_numbers : (part : SessionTree → Option PartTree) (a : ℕ) (sessions : List SessionTree)
    → map (λ (p : ℕ × SessionTree). p.0) (filter (λ (p : ℕ × SessionTree). is_some (part p.1)) (enumerate_from a sessions)) ≡ map session_in (own_planned part a sessions)
own_numbers part a [] = refl
own_numbers part a (s ∷ ss) = elim (part s) as (λ o. map (λ (p : ℕ × SessionTree). p.0) (cond (is_some o) ((a, s) ∷ filter (λ (p : ℕ × SessionTree). is_some (part p.1)) (enumerate_from (a + 1) ss)) (filter (λ (p : ℕ × SessionTree). is_some (part p.1)) (enumerate_from (a + 1) ss)))
    ≡ map session_in (cons_option (option_map (planned_in a) o) (own_planned part (a + 1) ss))) [ None ↦ own_numbers part (a + 1) ss | Some x ↦ ap (λ ns. a ∷ ns) (own_numbers part (a + 1) ss) ]

part_numbers : (ps : List PartTree) → replicate (length ps) 0 ≡ map session_in (map (planned_in 0) ps)
part_numbers [] = refl
part_numbers (p ∷ ps) = ap (λ ns. 0 ∷ ns) (part_numbers ps)

pub setups_number : (spec : SpecTree) → setup_numbers spec ≡ map session_in (setups_planned spec)
setups_number spec =
    ap₂ (λ (xs ys : List ℕ). xs ++ ys) (part_numbers spec.setups) (own_numbers (λ s. s.setup) 1 spec.sessions)
    ∙ sym (map_append session_in (map (planned_in 0) spec.setups) (own_planned (λ s. s.setup) 1 spec.sessions))

pub setups_count : (spec : SpecTree) → length (setups_of spec) ≡ length (setup_numbers spec)
setups_count spec =
    ap length (setups_launch spec) ∙ length-map (setups_planned spec) launch ∙ sym (length-map (setups_planned spec) session_in) ∙ sym (ap length (setups_number spec))

kinds_launch : (ts : List PlannedLaunch) → map kind (map launch ts) ≡ map Some (map session_in ts)
kinds_launch [] = refl
kinds_launch (t ∷ ts) = ap (λ ks. Some t.session ∷ ks) (kinds_launch ts)

kinds_leave : (a n : ℕ) → map kind (map (λ s. Leave s) (range_with_len a n)) ≡ replicate n None
kinds_leave a zero = refl
kinds_leave a (suc n) = ap (λ ks. None ∷ ks) (kinds_leave (a + 1) n)

kinds_last : (o : Option PartTree) → map kind (map (launch_in 0) (option_to_list o)) ≡ (if is_some o then Some 0 ∷ [] else [])
kinds_last None = refl
kinds_last (Some p) = refl

closing_kinds : (spec : SpecTree) → map kind (closing_of spec) ≡ teardown_numbers spec
closing_kinds spec =
    let own = own_launches (λ s. s.teardown) spec in
    let leaves = map (λ s. Leave s) (range_with_len 1 (length spec.sessions)) in
    let last = map (launch_in 0) (option_to_list spec.teardown) in
    let of_own = ap (map kind) (own_launch (λ s. s.teardown) 1 spec.sessions) ∙ kinds_launch (own_planned (λ s. s.teardown) 1 spec.sessions) ∙ ap (map Some) (sym (own_numbers (λ s. s.teardown) 1 spec.sessions)) in
    map_append kind (own ++ leaves) last
    ∙ ap₂ (λ (xs ys : List (Option ℕ)). xs ++ ys) (map_append kind own leaves ∙ ap₂ (λ (xs ys : List (Option ℕ)). xs ++ ys) of_own (kinds_leave 1 (length spec.sessions))) (kinds_last spec.teardown)

-- ---- the whole

state_is : (s : RunState) → (elim s as (λ _. Said) [ Invalid ↦ state_says Invalid | _ ↦ says [] ]) ≡ state_says s
state_is (Due e) = refl
state_is Whole = refl
state_is Invalid = refl

-- the pieces that are said behind so many setups
abbrev lines_piece : SpecTree → List EntryTree → List HistItem → ℕ → Said
lines_piece spec entries items k = let c = permutation_run entries items k in says (flat_map (line_text spec c) (report c (orders items - k)).lines)

abbrev state_piece : List EntryTree → List HistItem → ℕ → Said
state_piece entries items k = state_says (report (permutation_run entries items k) (orders items - k)).state

there_first : (items : List HistItem) (n : ℕ) (S E W : List Order) → take (length S) (enumerate_from 0 (take n ((S ++ E) ++ W))) ≡ enumerate_from 0 (take (n - 0) S)
there_first items n S E W =
    let e : n ≡ n - 0 = omega arith in
    take_numbers (length S) 0 (take n ((S ++ E) ++ W))
    ∙ ap (λ (os : List Order). enumerate_from 0 (take (length S) (take n os))) (append_assoc S E W)
    ∙ ap (enumerate_from 0) (front_of n S (E ++ W))
    ∙ ap (λ j. enumerate_from 0 (take j S)) e

there_last : (items : List HistItem) (n f : ℕ) (F C : List Order) → length F ≡ f
    → drop f (enumerate_from 0 (take n (F ++ with_leaves items (length F) C))) ≡ enumerate_from f (take (n - f) (with_leaves items f C))
there_last items n f F C is =
    let W = with_leaves items (length F) C in
    let e : 0 + length F ≡ length F = omega arith in
    ap (λ j. drop j (enumerate_from 0 (take n (F ++ W)))) (sym is)
    ∙ drop_numbers (length F) 0 (take n (F ++ W))
    ∙ ap (enumerate_from (0 + length F)) (back_of n F W)
    ∙ ap (λ j. enumerate_from j (take (n - length F) W)) e
    ∙ ap (λ j. enumerate_from j (take (n - j) (with_leaves items j C))) is

in_pieces : (start : Said) (xs ts : List Said) (lines state : Said) → fold (λ a b. a >> b) start (xs ++ lines ∷ state ∷ ts) ≡ (start >> chain xs >> (lines >> state) >> chain ts)
in_pieces start xs ts lines state =
    fold-append (λ a b. a >> b) start xs (lines ∷ state ∷ ts)
    ∙ fold_chain (fold (λ a b. a >> b) start xs) (lines ∷ state ∷ ts)
    ∙ ap (λ (s : Said). s >> lines >> state >> chain ts) (fold_chain start xs)
    ∙ then_assoc start.text start.notes start.ending (chain xs) (lines >> state >> chain ts)
    ∙ ap (λ (s : Said). start >> chain xs >> s) (sym (then_assoc lines.text lines.notes lines.ending state (chain ts)))

entries_launched : (spec : SpecTree) (entries : List EntryTree) → length (setups_of spec ++ map (launch_of_entry spec) entries) ≡ length (setups_of spec) + length entries
entries_launched spec entries =
    let front = length-append (setups_of spec) (map (launch_of_entry spec) entries) in
    let back = length-map entries (launch_of_entry spec) in
    omega arith

pub permutation_turn : (spec : SpecTree) (entries : List EntryTree) (items : List HistItem) → permutation_says spec entries items ≡ permutation_in_turn spec entries items
unfolding permutation_says permutation_in_turn
permutation_turn spec entries items =
    let S = setups_of spec in
    let E = map (launch_of_entry spec) entries in
    let C = closing_of spec in
    let n = orders items in
    let f = length S + length entries in
    let start = says (starting_text spec entries) in
    let setup : ℕ × Order → Said = λ p. setup_says items p.0 p.1 in
    let teardown : ℕ × Order → Said = λ p. teardown_says spec.sessions items p.0 p.1 in
    let there = enumerate_from 0 (take n (orders_of spec entries items)) in
    let state = (report (permutation_run entries items (length S)) (n - length S)).state in
    let setups = in_turn n 0 (map (setup_turn items) (setup_numbers spec)) in
    let teardowns : ℕ → Said = λ k. in_turn n (k + length entries) (map (teardown_turn spec.sessions items) (teardown_numbers spec)) in
    ap (λ (s : Said). fold (λ a b. a >> b) start (map setup (take (length S) there) ++ lines_piece spec entries items (length S) ∷ s ∷ map teardown (drop f there))) (state_is state)
    ∙ ap₂ (λ (xs ys : List (ℕ × Order)). fold (λ a b. a >> b) start (map setup xs ++ lines_piece spec entries items (length S) ∷ state_piece entries items (length S) ∷ map teardown ys))
    (there_first items n S E (with_leaves items (length (S ++ E)) C)) (there_last items n f (S ++ E) C (entries_launched spec entries))
    ∙ in_pieces start (map setup (enumerate_from 0 (take (n - 0) S))) (map teardown (enumerate_from f (take (n - f) (with_leaves items f C)))) (lines_piece spec entries items (length S)) (state_piece entries items (length S))
    ∙ ap₂ (λ (a b : Said). start >> a >> (lines_piece spec entries items (length S) >> state_piece entries items (length S)) >> b)
    (ap (setups_there items n 0) (setups_launch spec) ∙ setups_turn items n 0 (setups_planned spec) ∙ ap (λ ns. in_turn n 0 (map (setup_turn items) ns)) (sym (setups_number spec)))
    (teardowns_turn spec.sessions items n f C ∙ ap (λ ks. in_turn n f (map (teardown_turn spec.sessions items) ks)) (closing_kinds spec))
    ∙ ap (λ k. start >> setups >> (lines_piece spec entries items k >> state_piece entries items k) >> teardowns k) (setups_count spec)
