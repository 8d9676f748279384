-- A closed free run whose threads met no fault launches what the free run of its spec launches.
use Rattle.std.proofs.Common.{◌≡◌, ◌∙◌, refl, sym, ap, subst, ℕ, zero, suc, ◌+◌, ◌-◌, ◌<◌, ◌==◌, inl, inr, Bool, true, false, cond, not, ◌||◌, List, [], ◌∷◌, ◌++◌, length, map, take, drop, append_assoc, append-nil, length-append, arith}
use Rattle.std.specs.Prelude.{Some, None, slice_get, slice_range, if◌then◌else◌}
use Rattle.std.proofs.lemmas.Bool.{and_from, and_parts, eq-eqb, ne_eqb, eqb-true}
use Rattle.std.proofs.lemmas.List.{drop_at, length-map}
use Rattle.session_machine.specs.declared.event.Event.{Event}
use Rattle.session_machine.specs.declared.event.Event.TheVariants.{Launch, Leave}
use Rattle.session_machine.specs.declared.event.Mode.{Mode}
use Rattle.session_machine.specs.declared.reply.Reply.{Reply}
use Rattle.session_machine.specs.declared.reply.HistItem.{HistItem}
use Rattle.session_machine.specs.Machine.{Blocks, session_of}
use Rattle.session_machine.specs.Engine.{IsLegal}
use Rattle.session_seats.specs.declared.free.BlockState.{BlockState}
use Rattle.session_seats.specs.declared.free.BlockState.TheVariants.{Ended, Stopped}
use Rattle.session_seats.specs.declared.free.FreePlan.{FreePlan}
use Rattle.session_seats.specs.Free.{script_of, scripts_in}
use Rattle.session_seats.specs.FreeRuns.{StepsTo, RunsBlock, RunInTurn, Does, DoesAll, IsWholeRun, FitsPlan}
use Rattle.report_lines.specs.declared.history.PlannedLaunch.{PlannedLaunch}
use Rattle.report_lines.specs.Starts.{is_order}
use Rattle.report_lines.specs.Due.{went_well}
use Rattle.permutation_plans.specs.FreeLaunches.{FreeLaunches, scripts_of}
use Rattle.permutation_plans.specs.FreeRegular.{given, events_of, launches_in, script_events, AreGiven, between, items_of, ends_each, EachEnds, IsWhole, IsStopped, IfWell, FitsFrom, FreeFits}
use Rattle.permutation_plans.proofs.Replied.{AllEndSo, EndsSo, legal_ends}
use Rattle.spec_files.specs.FreeRuns.{pair_of}
use Rattle.spec_files.proofs.FreeBlocks.{given_append, given_order, given_none, is_given, is_step, block_given, Begins, turns_begin, middle, segment_is, ended_reply, well, ill, stopped}

-- ---- the setups

ends_behind : (xs ys : List HistItem) → AllEndSo (xs ++ ys) → AllEndSo ys
ends_behind [] ys all = all
ends_behind (x ∷ xs) ys all = ends_behind xs ys all.1

got_at : (xs : List Event) (y : Event) (ys : List Event) → slice_get (xs ++ y ∷ ys) (length xs) ≡ Some y
got_at [] y ys = refl
got_at (x ∷ xs) y ys = got_at xs y ys

-- the block behind so many orders is the one given next
launched : (session block : ℕ) (end : BlockState) (xs own ys : List HistItem) → RunsBlock session block end own
    → slice_get (given (xs ++ (own ++ ys))) (length (given xs)) ≡ Some (Launch session block)
launched session block end xs own ys runs =
    ap (λ (es : List Event). slice_get es (length (given xs)))
    (given_append xs (own ++ ys) ∙ ap (λ (es : List Event). given xs ++ es) (given_append own ys ∙ ap (λ (es : List Event). es ++ given ys) (block_given session block end own runs)))
    ∙ got_at (given xs) (Launch session block) (given ys)

if_well : (b : Bool) (A B : Type 0) → b ≡ true → A → IfWell b A B
if_well true A B h a = a
if_well false A B h a = absurd cc

if_ill : (b : Bool) (A B : Type 0) → b ≡ false → B → IfWell b A B
if_ill false A B h b = b
if_ill true A B h b = absurd cc

-- one more order is there behind a block
one_more : (session block : ℕ) (end : BlockState) (xs own : List HistItem) → RunsBlock session block end own → length (given (xs ++ own)) ≡ length (given xs) + 1
one_more session block end xs own runs =
    ap length (given_append xs own ∙ ap (λ (es : List Event). given xs ++ es) (block_given session block end own runs)) ∙ length-append (given xs) (Launch session block ∷ [])

-- the setups ran one after the other, and behind them something begins
well_fits : (Whole : Type 0) (ts : List PlannedLaunch) (xs run ys : List HistItem) → RunInTurn (map pair_of ts) run → Begins ys → Whole → FitsFrom Whole (xs ++ (run ++ ys)) (length (given xs)) ts
well_fits Whole [] xs run ys turns h whole = whole
well_fits Whole (t ∷ ts) xs run ys turns h whole =
    let own = turns.0 in
    let rest = turns.1 in
    let same : run ++ ys ≡ own ++ (rest ++ ys) = ap (λ (w : List HistItem). w ++ ys) turns.2 ∙ append_assoc own rest ys in
    let on : FitsFrom Whole ((xs ++ own) ++ (rest ++ ys)) (length (given (xs ++ own))) ts = well_fits Whole ts (xs ++ own) rest ys turns.4 h whole in
    let here : FitsFrom Whole (xs ++ (own ++ (rest ++ ys))) (length (given xs) + 1) ts =
    subst (λ (n : ℕ). FitsFrom Whole (xs ++ (own ++ (rest ++ ys))) n ts) (one_more t.session t.block Ended xs own turns.3)
    (subst (λ (w : List HistItem). FitsFrom Whole w (length (given (xs ++ own))) ts) (append_assoc xs own (rest ++ ys)) on) in
    let begins = turns_begin (map pair_of ts) rest ys turns.4 h in
    let items = xs ++ (own ++ (rest ++ ys)) in
    subst (λ (w : List HistItem). FitsFrom Whole (xs ++ w) (length (given xs)) (t ∷ ts)) (sym same) (
      launched t.session t.block Ended xs own (rest ++ ys) turns.3,
      if_well (went_well items (length (given xs)) t.session) _ _
          (well items (length (given xs)) t.session t.block own (segment_is t.session t.block Ended xs own (rest ++ ys) turns.3 begins) turns.3) here,
    )

no_setup : {A : Type 0} (a : A) → None ≡ Some a → ⊥
no_setup a h = cc

same_setup : {A : Type 0} (a b : A) → Some a ≡ Some b → a ≡ b
same_setup a b h = cc

-- one of them stopped, and with it the history ends
cut_fits : (Whole : Type 0) (ts : List PlannedLaunch) (number : ℕ) (setup : ℕ × ℕ) (ended : Bool) (xs run last : List HistItem) → AllEndSo last
    → RunInTurn (take number (map pair_of ts)) run → slice_get (map pair_of ts) number ≡ Some setup → RunsBlock setup.0 setup.1 (Stopped ended) last
    → FitsFrom Whole (xs ++ (run ++ last)) (length (given xs)) ts
cut_fits Whole [] number setup ended xs run last all turns there stops = absurd (no_setup setup there)
cut_fits Whole (t ∷ ts) zero setup ended xs run last all turns there stops =
    let runs = subst (λ (s : ℕ × ℕ). RunsBlock s.0 s.1 (Stopped ended) last) (sym (same_setup (pair_of t) setup there)) stops in
    let count : length (given (xs ++ last)) ≡ length (given xs) + 1 = one_more t.session t.block (Stopped ended) xs last runs in
    let k = length (given xs) in
    let one : FitsFrom Whole (xs ++ (last ++ [])) k (t ∷ ts) = (
      launched t.session t.block (Stopped ended) xs last [] runs,
      if_ill (went_well (xs ++ (last ++ [])) k t.session) _ _
          (ill (xs ++ (last ++ [])) k t.session t.block ended last (segment_is t.session t.block (Stopped ended) xs last [] runs tt) all runs)
          (subst (λ (w : List HistItem). IsStopped (xs ++ w) k) (sym (append-nil last)) (stopped t.session t.block ended xs last runs, count)),
    ) in
    subst (λ (w : List HistItem). FitsFrom Whole (xs ++ w) k (t ∷ ts)) (append-nil last ∙ ap (λ (w : List HistItem). w ++ last) (sym turns)) one
cut_fits Whole (t ∷ ts) (suc number) setup ended xs run last all turns there stops =
    let own = turns.0 in
    let rest = turns.1 in
    let same : run ++ last ≡ own ++ (rest ++ last) = ap (λ (w : List HistItem). w ++ last) turns.2 ∙ append_assoc own rest last in
    let on = cut_fits Whole ts number setup ended (xs ++ own) rest last all turns.4 there stops in
    let here : FitsFrom Whole (xs ++ (own ++ (rest ++ last))) (length (given xs) + 1) ts =
    subst (λ (n : ℕ). FitsFrom Whole (xs ++ (own ++ (rest ++ last))) n ts) (one_more t.session t.block Ended xs own turns.3)
    (subst (λ (w : List HistItem). FitsFrom Whole w (length (given (xs ++ own))) ts) (append_assoc xs own (rest ++ last)) on) in
    let begins = turns_begin (take number (map pair_of ts)) rest last turns.4 (stop_begins setup.0 setup.1 (Stopped ended) last stops) in
    let items = xs ++ (own ++ (rest ++ last)) in
    subst (λ (w : List HistItem). FitsFrom Whole (xs ++ w) (length (given xs)) (t ∷ ts)) (sym same) (
      launched t.session t.block Ended xs own (rest ++ last) turns.3,
      if_well (went_well items (length (given xs)) t.session) _ _
          (well items (length (given xs)) t.session t.block own (segment_is t.session t.block Ended xs own (rest ++ last) turns.3 begins) turns.3) here,
    )
  where
    stop_begins : (session block : ℕ) (end : BlockState) (own : List HistItem) → RunsBlock session block end own → Begins own
    stop_begins session block end [] runs = absurd runs
    stop_begins session block end (item ∷ items) runs = ap is_order runs.0

-- ---- what a session does

-- Launches and Leaves alone, of this session
abbrev AreOrdersOf : ℕ → List Event → Type 0
AreOrdersOf session [] = Unit {0}
AreOrdersOf session (e ∷ es) = (is_order e ≡ true) × (session_of e ≡ session) × AreOrdersOf session es

are_launches : (session : ℕ) (blocks : List ℕ) (es : List Event) → AreOrdersOf session es → AreOrdersOf session (launches_in session blocks ++ es)
are_launches session [] es are = are
are_launches session (b ∷ bs) es are = (refl, refl, are_launches session bs es are)

-- what it does is what it is given
does_given : (session : ℕ) (over : Bool) (events : List Event) (items : List HistItem) (over_then : Bool) (left : List Event) → AreOrdersOf session events → Does session over events items over_then left
    → given items ++ left ≡ events
does_given session over events [] over_then left are does = sym does.1
does_given session false events (i ∷ is) over_then left are does =
    ap (λ (es : List Event). es ++ left) (is_step i is session does.0) ∙ does_given session i.reply.ended events is over_then left are does.1
does_given session true [] (i ∷ is) over_then left are does = absurd does
does_given session true (e ∷ es) (i ∷ is) over_then left are does =
    ap (λ (x : List Event). x ++ left) (is_given i is e does.0 are.0) ∙ ap (λ (x : List Event). e ∷ x) (does_given session i.reply.ended es is over_then left are.2 does.1)

all_given : (session : ℕ) (events : List Event) (items : List HistItem) → AreOrdersOf session events → DoesAll session events items → given items ≡ events
all_given session events items are does = sym (append-nil (given items)) ∙ does_given session true events items true [] are does

-- each of its blocks has ended before the next
or_not : (over b : Bool) → b ≡ false → (over || not b) ≡ true
or_not true b h = refl
or_not false true h = cc
or_not false false h = refl

does_end : (session : ℕ) (over : Bool) (events : List Event) (items : List HistItem) → Does session over events items true [] → ends_each over items ≡ true
does_end session over events [] does = does.0
does_end session false events (i ∷ is) does =
    and_from (false || not (is_order i.event)) (ends_each i.reply.ended is) (or_not false (is_order i.event) (ap is_order does.0)) (does_end session i.reply.ended events is does.1)
does_end session true [] (i ∷ is) does = absurd does
does_end session true (e ∷ es) (i ∷ is) does = and_from (true || not (is_order i.event)) (ends_each i.reply.ended is) refl (does_end session i.reply.ended es is does.1)

-- all of it is of this session
abbrev AreOf : ℕ → List HistItem → Type 0
AreOf session [] = Unit {0}
AreOf session (i ∷ is) = (session_of i.event ≡ session) × AreOf session is

does_of : (session : ℕ) (over : Bool) (events : List Event) (items : List HistItem) (over_then : Bool) (left : List Event) → AreOrdersOf session events → Does session over events items over_then left → AreOf session items
does_of session over events [] over_then left are does = tt
does_of session false events (i ∷ is) over_then left are does = (ap session_of does.0, does_of session i.reply.ended events is over_then left are does.1)
does_of session true [] (i ∷ is) over_then left are does = absurd does
does_of session true (e ∷ es) (i ∷ is) over_then left are does = (ap session_of does.0 ∙ are.1, does_of session i.reply.ended es is over_then left are.2 does.1)

kept : (b : Bool) (i : HistItem) (is js : List HistItem) → b ≡ true → is ≡ js → cond b (i ∷ is) is ≡ i ∷ js
kept true i is js h same = ap (λ (w : List HistItem). i ∷ w) same
kept false i is js h same = cc

passed : (b : Bool) (i : HistItem) (is js : List HistItem) → b ≡ false → is ≡ js → cond b (i ∷ is) is ≡ js
passed false i is js h same = same
passed true i is js h same = cc

its_own : (session : ℕ) (items : List HistItem) → AreOf session items → items_of session items ≡ items
its_own session [] of = refl
its_own session (i ∷ is) of = kept (session_of i.event == session) i _ is (eq-eqb (session_of i.event) session of.0) (its_own session is of.1)

not_its_own : (session other : ℕ) (items : List HistItem) → (session == other) ≡ false → AreOf session items → items_of other items ≡ []
not_its_own session other [] differ of = refl
not_its_own session other (i ∷ is) differ of =
    passed (session_of i.event == other) i _ [] (ap (λ (n : ℕ). n == other) of.0 ∙ differ) (not_its_own session other is differ of.1)

-- what one session does ends each time, for whatever session one looks
ends_for : (session other : ℕ) (items : List HistItem) → AreOf session items → ends_each true items ≡ true → ends_each true (items_of other items) ≡ true
ends_for session other items of ends = by (session == other) refl where
  by : (b : Bool) → (session == other) ≡ b → ends_each true (items_of other items) ≡ true
  by true same = subst (λ (n : ℕ). ends_each true (items_of n items) ≡ true) (eqb-true session other same) (ap (ends_each true) (its_own session items of) ∙ ends)
  by false differ = ap (ends_each true) (not_its_own session other items differ of)

-- ---- each block ends before the next

own_append : (session : ℕ) (xs ys : List HistItem) → items_of session (xs ++ ys) ≡ items_of session xs ++ items_of session ys
own_append session [] ys = refl
own_append session (x ∷ xs) ys = by (session_of x.event == session) (own_append session xs ys) where
  by : (b : Bool) → items_of session (xs ++ ys) ≡ items_of session xs ++ items_of session ys
      → cond b (x ∷ items_of session (xs ++ ys)) (items_of session (xs ++ ys)) ≡ cond b (x ∷ items_of session xs) (items_of session xs) ++ items_of session ys
  by true same = ap (λ (w : List HistItem). x ∷ w) same
  by false same = same

ends_append : (over : Bool) (xs ys : List HistItem) → ends_each over xs ≡ true → ends_each true ys ≡ true → ends_each over (xs ++ ys) ≡ true
ends_append over [] ys h k = ap (λ (b : Bool). ends_each b ys) h ∙ k
ends_append over (x ∷ xs) ys h k =
    let parts = and_parts (over || not (is_order x.event)) (ends_each x.reply.ended xs) h in
    and_from (over || not (is_order x.event)) (ends_each x.reply.ended (xs ++ ys)) parts.0 (ends_append x.reply.ended xs ys parts.1 k)

-- the items of two parts, each of which ends
ends_both : (session : ℕ) (xs ys : List HistItem) → ends_each true (items_of session xs) ≡ true → ends_each true (items_of session ys) ≡ true → ends_each true (items_of session (xs ++ ys)) ≡ true
ends_both session xs ys h k = ap (ends_each true) (own_append session xs ys) ∙ ends_append true (items_of session xs) (items_of session ys) h k

steps_end : (session : ℕ) (reply : Reply) (items : List HistItem) → StepsTo session Ended reply items → (ends_each reply.ended items ≡ true) × AreOf session items
steps_end session reply [] runs = ((ended_reply reply runs).1, tt)
steps_end session reply (i ∷ is) runs =
    let rest = steps_end session i.reply is runs.2 in (
      and_from (reply.ended || not (is_order i.event)) (ends_each i.reply.ended is) (or_not reply.ended (is_order i.event) (ap is_order runs.1)) rest.0,
      (ap session_of runs.1, rest.1),
    )

block_ends : (session block other : ℕ) (own : List HistItem) → RunsBlock session block Ended own → ends_each true (items_of other own) ≡ true
block_ends session block other [] runs = absurd runs
block_ends session block other (i ∷ is) runs =
    let rest = steps_end session i.reply is runs.1 in
    ends_for session other (i ∷ is) (ap session_of runs.0, rest.1) (and_from (true || not (is_order i.event)) (ends_each i.reply.ended is) refl rest.0)

turns_end : (setups : List (ℕ × ℕ)) (items : List HistItem) (session : ℕ) → RunInTurn setups items → ends_each true (items_of session items) ≡ true
turns_end [] items session turns = ap (λ (w : List HistItem). ends_each true (items_of session w)) turns
turns_end (s ∷ ss) items session turns =
    subst (λ (w : List HistItem). ends_each true (items_of session w) ≡ true) (sym turns.2)
    (ends_both session turns.0 turns.1 (block_ends s.0 s.1 session turns.0 turns.3) (turns_end ss turns.1 session turns.4))

-- ---- what each session is given

-- the events of a session are those of its items
events_are : (session : ℕ) (items : List HistItem) → events_of session (given items) ≡ given (items_of session items)
events_are session [] = refl
events_are session (i ∷ is) = by (events_are session is) (is_order i.event) (session_of i.event == session) refl refl where
  by : events_of session (given is) ≡ given (items_of session is) → (o s : Bool) → is_order i.event ≡ o → (session_of i.event == session) ≡ s
      → events_of session (cond o (i.event ∷ given is) (given is)) ≡ given (cond s (i ∷ items_of session is) (items_of session is))
  by rest true true a b =
      given_order (session_of i.event == session) i.event (events_of session (given is)) b
      ∙ (ap (λ (w : List Event). i.event ∷ w) rest ∙ sym (given_order (is_order i.event) i.event (given (items_of session is)) a))
  by rest true false a b = given_none (session_of i.event == session) i.event (events_of session (given is)) b ∙ rest
  by rest false true a b = rest ∙ sym (given_none (is_order i.event) i.event (given (items_of session is)) a)
  by rest false false a b = rest

none_more : (n : ℕ) → n + 0 ≡ n
none_more n = omega arith

one_on : (n j : ℕ) → n + suc j ≡ (n + 1) + j
one_on n j = omega arith

are_given : (events : List Event) (n : ℕ) (scripts : List (List ℕ)) → ((j : ℕ) (blocks : List ℕ) → slice_get scripts j ≡ Some blocks → events_of (n + j) events ≡ script_events (n + j) blocks) → AreGiven events n scripts
are_given events n [] each = tt
are_given events n (blocks ∷ scripts) each = (
  subst (λ (m : ℕ). events_of m events ≡ script_events m blocks) (none_more n) (each 0 blocks refl),
  are_given events (n + 1) scripts (λ j bs is. subst (λ (m : ℕ). events_of m events ≡ script_events m bs) (one_on n j) (each (suc j) bs is)),
)

-- the script of the session of this number, counted from 1
script_at : (scripts : List (List ℕ)) (j : ℕ) → script_of scripts (1 + j) ≡ slice_get scripts j
script_at scripts j =
    let some : ((1 + j) == 0) ≡ false = ne_eqb (1 + j) 0 (λ (none : 1 + j ≡ 0). omega (arith, none)) in
    let place : (1 + j) - 1 ≡ j = omega arith in
    ap (λ (b : Bool). if b then None else slice_get scripts ((1 + j) - 1)) some ∙ ap (slice_get scripts) place

there_is : (scripts : List (List ℕ)) (j : ℕ) → j < length scripts → (blocks : List ℕ) × (slice_get scripts j ≡ Some blocks)
there_is [] j h = absurd (omega (arith, h))
there_is (s ∷ ss) zero h = (s, refl)
there_is (s ∷ ss) (suc j) h = there_is ss j (omega (arith, h))

-- ---- the whole

pub whole_fits : (plan : FreePlan) (l : FreeLaunches) (items : List HistItem) → plan.before.items ≡ map pair_of l.before → scripts_of plan.scripts ≡ l.scripts → plan.after.items ≡ l.after
    → AllEndSo items → IsWholeRun plan items → IsWhole l items
whole_fits plan l items before_is scripts_are after_is all w =
    (left, (given_each, none, last), ends)
  where
    leave : HistItem
    leave = record { event = Leave 0; reply = w.left }

    rest : List HistItem
    rest = w.between ++ w.last

    are_last : AreOrdersOf 0 (launches_in 0 plan.after.items)
    are_last = subst (AreOrdersOf 0) (append-nil (launches_in 0 plan.after.items)) (are_launches 0 plan.after.items [] tt)

    last_given : given w.last ≡ launches_in 0 l.after
    last_given = all_given 0 (launches_in 0 plan.after.items) w.last are_last w.after ∙ ap (launches_in 0) after_is

    -- what was given is what each part was given
    parts : given items ≡ (given w.before ++ Leave 0 ∷ []) ++ (given w.between ++ given w.last)
    parts =
        ap given w.whole ∙ given_append w.before (leave ∷ rest) ∙ ap (λ (es : List Event). given w.before ++ Leave 0 ∷ es) (given_append w.between w.last)
        ∙ sym (append_assoc (given w.before) (Leave 0 ∷ []) (given w.between ++ given w.last))

    setups : length (given w.before) ≡ length l.before
    setups = turns_given (plan.before.items) w.before w.well ∙ ap length before_is ∙ length-map l.before pair_of where
      turns_given : (setups : List (ℕ × ℕ)) (run : List HistItem) → RunInTurn setups run → length (given run) ≡ length setups
      turns_given [] run turns = ap (λ (w : List HistItem). length (given w)) turns
      turns_given (s ∷ ss) run turns =
          ap (λ (w : List HistItem). length (given w)) turns.2
          ∙ ap length (given_append turns.0 turns.1 ∙ ap (λ (es : List Event). es ++ given turns.1) (block_given s.0 s.1 Ended turns.0 turns.3))
          ∙ ap suc (turns_given ss turns.1 turns.4)

    left : slice_get (given items) (length l.before) ≡ Some (Leave 0)
    left =
        ap (λ (es : List Event). slice_get es (length l.before)) (parts ∙ append_assoc (given w.before) (Leave 0 ∷ []) (given w.between ++ given w.last))
        ∙ ap (slice_get (given w.before ++ (Leave 0 ∷ (given w.between ++ given w.last)))) (sym setups)
        ∙ got_at (given w.before) (Leave 0) (given w.between ++ given w.last)

    first : ℕ
    first = length (given w.before ++ Leave 0 ∷ [])

    first_is : first ≡ length l.before + 1
    first_is = length-append (given w.before) (Leave 0 ∷ []) ∙ ap (λ (n : ℕ). n + 1) setups

    after_long : length (given w.last) ≡ length l.after
    after_long = ap length last_given ∙ length-map l.after (λ b. Launch 0 b)

    all_long : length (given items) ≡ first + (length (given w.between) + length (given w.last))
    all_long =
        ap length parts ∙ length-append (given w.before ++ Leave 0 ∷ []) (given w.between ++ given w.last) ∙ ap (λ (n : ℕ). first + n) (length-append (given w.between) (given w.last))

    between_is : between l (given items) ≡ given w.between
    between_is =
        let last_place : length (given items) - length l.after ≡ first + length (given w.between) = omega (arith, all_long, after_long) in
        ap (λ (n : ℕ). slice_range (given items) n (length (given items) - length l.after)) (sym first_is)
        ∙ ap (λ (n : ℕ). slice_range (given items) first n) last_place
        ∙ ap (λ (es : List Event). slice_range es first (first + length (given w.between))) parts
        ∙ middle (given w.before ++ Leave 0 ∷ []) (given w.between) (given w.last)

    own_script : (j : ℕ) (blocks : List ℕ) → slice_get l.scripts j ≡ Some blocks → DoesAll (1 + j) (script_events (1 + j) blocks) (items_of (1 + j) w.between)
    own_script j blocks is = w.scripts.own (1 + j) blocks (script_at (scripts_in plan.scripts.items) j ∙ ap (λ (ss : List (List ℕ)). slice_get ss j) scripts_are ∙ is)

    given_each : AreGiven (between l (given items)) 1 l.scripts
    given_each = subst (λ (es : List Event). AreGiven es 1 l.scripts) (sym between_is) (are_given (given w.between) 1 l.scripts
        (λ j blocks is. events_are (1 + j) w.between
        ∙ all_given (1 + j) (script_events (1 + j) blocks) (items_of (1 + j) w.between) (are_launches (1 + j) blocks (Leave (1 + j) ∷ []) (refl, refl, tt)) (own_script j blocks is)))

    none : events_of 0 (between l (given items)) ≡ []
    none = ap (events_of 0) between_is ∙ events_are 0 w.between ∙ ap given w.scripts.control

    last : drop (length (given items) - length l.after) (given items) ≡ launches_in 0 l.after
    last =
        let last_place : length (given items) - length l.after ≡ first + length (given w.between) = omega (arith, all_long, after_long) in
        ap (λ (n : ℕ). drop n (given items)) last_place
        ∙ ap (drop (first + length (given w.between))) (parts ∙ sym (append_assoc (given w.before ++ Leave 0 ∷ []) (given w.between) (given w.last)))
        ∙ drop_at ((given w.before ++ Leave 0 ∷ []) ++ given w.between) (given w.last) (first + length (given w.between)) (length-append (given w.before ++ Leave 0 ∷ []) (given w.between))
        ∙ last_given

    -- ends
    leave_ends : w.left.ended ≡ true
    leave_ends = (at_leave w.before (subst AllEndSo w.whole all)).left 0 refl where
      at_leave : (xs : List HistItem) → AllEndSo (xs ++ leave ∷ rest) → EndsSo (Leave 0) w.left
      at_leave [] h = h.0
      at_leave (x ∷ xs) h = at_leave xs h.1

    leaves_end : (session : ℕ) → ends_each true (items_of session (leave ∷ [])) ≡ true
    leaves_end session = ends_for 0 session (leave ∷ []) (refl, tt) (and_from true w.left.ended refl leave_ends)

    scripts_end : (session : ℕ) → session < length l.scripts + 1 → ends_each true (items_of session w.between) ≡ true
    scripts_end zero h = ap (ends_each true) w.scripts.control
    scripts_end (suc j) h =
        let there : j < length l.scripts = omega (arith, h) in
        let its = there_is l.scripts j there in
        let same : 1 + j ≡ suc j = omega arith in
        subst (λ (n : ℕ). ends_each true (items_of n w.between) ≡ true) same (does_end (1 + j) true (script_events (1 + j) its.0) (items_of (1 + j) w.between) (own_script j its.0 its.1))

    last_ends : (session : ℕ) → ends_each true (items_of session w.last) ≡ true
    last_ends session =
        ends_for 0 session w.last (does_of 0 true (launches_in 0 plan.after.items) w.last true [] are_last w.after)
        (does_end 0 true (launches_in 0 plan.after.items) w.last w.after)

    ends : EachEnds (length l.scripts + 1) items
    ends session h =
        subst (λ (w : List HistItem). ends_each true (items_of session w) ≡ true) (sym w.whole)
        (ends_both session w.before (leave ∷ rest) (turns_end plan.before.items w.before session w.well)
        (ends_both session (leave ∷ []) rest (leaves_end session) (ends_both session w.between w.last (scripts_end session h) (last_ends session))))

-- what fits the plan that the threads were given launches what it is the plan of
pub plan_fits_free : (plan : FreePlan) (l : FreeLaunches) (blocks : Blocks) (count : ℕ) (mode : Mode) (items : List HistItem)
    → plan.before.items ≡ map pair_of l.before → scripts_of plan.scripts ≡ l.scripts → plan.after.items ≡ l.after
    → IsLegal blocks count mode items → FitsPlan plan items → FreeFits l items
plan_fits_free plan l blocks count mode items before_is scripts_are after_is legal (inl cut) =
    let all = subst AllEndSo cut.whole (legal_ends blocks count mode items legal) in
    subst (λ (w : List HistItem). FitsFrom (IsWhole l items) w 0 l.before) (sym cut.whole)
    (cut_fits (IsWhole l items) l.before cut.number cut.setup cut.ended [] cut.before cut.last (ends_behind cut.before cut.last all)
    (subst (λ (ss : List (ℕ × ℕ)). RunInTurn (take cut.number ss) cut.before) before_is cut.well)
    (ap (λ (ss : List (ℕ × ℕ)). slice_get ss cut.number) (sym before_is) ∙ cut.there) cut.stops)
plan_fits_free plan l blocks count mode items before_is scripts_are after_is legal (inr w) =
    let all = legal_ends blocks count mode items legal in
    let leave : HistItem = record { event = Leave 0; reply = w.left } in
    subst (λ (x : List HistItem). FitsFrom (IsWhole l items) x 0 l.before) (sym w.whole)
    (well_fits (IsWhole l items) l.before [] w.before (leave ∷ (w.between ++ w.last)) (subst (λ (ss : List (ℕ × ℕ)). RunInTurn ss w.before) before_is w.well) refl
    (whole_fits plan l items before_is scripts_are after_is all w))
