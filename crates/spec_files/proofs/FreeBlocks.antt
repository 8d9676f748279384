-- Of blocks that ran one after the other: what they were given, where their segments lie, and how they ended.
use Rattle.std.proofs.Common.{◌≡◌, ◌∙◌, refl, sym, ap, subst, ℕ, zero, suc, ◌+◌, ◌-◌, Bool, true, false, true≢false, cond, not, ◌&&◌, List, [], ◌∷◌, ◌++◌, length, take, append_assoc, length-append, arith}
use Rattle.std.specs.Prelude.{Option, Some, slice_get, slice_range, if◌then◌else◌}
use Rattle.std.specs.List.{list_any}
use Rattle.std.specs.Option.{option_map_or}
use Rattle.std.proofs.lemmas.Bool.{eq-eqb, or_from, or_left, or_right, or_parts}
use Rattle.std.proofs.lemmas.List.{take_at, drop_at}
use Rattle.session_machine.specs.declared.event.Event.{Event}
use Rattle.session_machine.specs.declared.event.Event.TheVariants.{Launch, Step}
use Rattle.session_machine.specs.declared.reply.Outcome.{Outcome}
use Rattle.session_machine.specs.declared.reply.Outcome.TheVariants.{Launched, Done, Rows, Waits, Failed, Left}
use Rattle.session_machine.specs.declared.reply.Reply.{Reply}
use Rattle.session_machine.specs.declared.reply.HistItem.{HistItem}
use Rattle.session_machine.specs.Machine.{is_failed, session_of}
use Rattle.session_seats.specs.declared.free.BlockState.{BlockState}
use Rattle.session_seats.specs.declared.free.BlockState.TheVariants.{GoesOn, Ended, Stopped}
use Rattle.session_seats.specs.Free.{state_at, stops}
use Rattle.session_seats.specs.FreeRuns.{StepsTo, RunsBlock, RunInTurn}
use Rattle.report_lines.specs.Starts.{is_order, segment_start, ends_in}
use Rattle.report_lines.specs.Due.{segment, is_over, went_well}
use Rattle.permutation_plans.specs.FreeRegular.{given, item_stops, stops as is_stop}
use Rattle.permutation_plans.proofs.Replied.{AllEndSo}

-- ---- what was given

given_kept : (b : Bool) (e : Event) (xs ys zs : List Event) → xs ≡ ys ++ zs → cond b (e ∷ xs) xs ≡ cond b (e ∷ ys) ys ++ zs
given_kept true e xs ys zs same = ap (λ w. e ∷ w) same
given_kept false e xs ys zs same = same

pub given_append : (xs ys : List HistItem) → given (xs ++ ys) ≡ given xs ++ given ys
given_append [] ys = refl
given_append (x ∷ xs) ys = given_kept (is_order x.event) x.event (given (xs ++ ys)) (given xs) (given ys) (given_append xs ys)

-- an order, or none
pub given_order : (b : Bool) (e : Event) (xs : List Event) → b ≡ true → cond b (e ∷ xs) xs ≡ e ∷ xs
given_order true e xs h = refl
given_order false e xs h = cc

pub given_none : (b : Bool) (e : Event) (xs : List Event) → b ≡ false → cond b (e ∷ xs) xs ≡ xs
given_none true e xs h = cc
given_none false e xs h = refl

-- an item that carries out this event
pub is_given : (item : HistItem) (items : List HistItem) (event : Event) → item.event ≡ event → is_order event ≡ true → given (item ∷ items) ≡ event ∷ given items
is_given item items event is ordered =
    given_order (is_order item.event) item.event (given items) (ap is_order is ∙ ordered) ∙ ap (λ (e : Event). e ∷ given items) is

pub is_step : (item : HistItem) (items : List HistItem) (session : ℕ) → item.event ≡ Step session → given (item ∷ items) ≡ given items
is_step item items session is = given_none (is_order item.event) item.event (given items) (ap is_order is)

pub steps_given : (session : ℕ) (end : BlockState) (reply : Reply) (items : List HistItem) → StepsTo session end reply items → given items ≡ []
steps_given session end reply [] runs = refl
steps_given session end reply (item ∷ items) runs = is_step item items session runs.1 ∙ steps_given session end item.reply items runs.2

pub block_given : (session block : ℕ) (end : BlockState) (items : List HistItem) → RunsBlock session block end items → given items ≡ Launch session block ∷ []
block_given session block end [] runs = absurd runs
block_given session block end (item ∷ items) runs =
    is_given item items (Launch session block) runs.0 refl ∙ ap (λ (w : List Event). Launch session block ∷ w) (steps_given session end item.reply items runs.1)

-- ---- where segments lie

-- behind so many orders the places of orders are those of the rest
pub start_behind : (xs zs : List HistItem) (j : ℕ) → segment_start (xs ++ zs) (length (given xs) + j) ≡ length xs + segment_start zs j
start_behind [] zs j =
    let count : length (given []) + j ≡ j = omega arith in
    let same : segment_start zs j ≡ length {A = HistItem} [] + segment_start zs j = omega arith in
    ap (segment_start zs) count ∙ same
start_behind (x ∷ xs) zs j = by (start_behind xs zs j) (is_order x.event) refl where
  on : ℕ → ℕ
  on k = segment_start (xs ++ zs) k

  skip : (k : ℕ) → is_order x.event ≡ false → on k ≡ length xs + segment_start zs j → segment_start (x ∷ (xs ++ zs)) k ≡ suc (length xs) + segment_start zs j
  skip zero is so =
      let more : on zero + 1 ≡ suc (length xs) + segment_start zs j = omega (arith, so) in
      ap (λ (c : Bool). if c then 0 else (on zero + 1)) is ∙ more
  skip (suc k) is so =
      let more : on (suc k) + 1 ≡ suc (length xs) + segment_start zs j = omega (arith, so) in
      ap (λ (c : Bool). if c then (on k + 1) else (on (suc k) + 1)) is ∙ more

  by : on (length (given xs) + j) ≡ length xs + segment_start zs j → (b : Bool) → is_order x.event ≡ b → segment_start (x ∷ (xs ++ zs)) (length (given (x ∷ xs)) + j) ≡ suc (length xs) + segment_start zs j
  by rest true is =
      let long : length (given (x ∷ xs)) ≡ suc (length (given xs)) = ap length (given_order (is_order x.event) x.event (given xs) is) in
      let count : length (given (x ∷ xs)) + j ≡ suc (length (given xs) + j) = omega (arith, long) in
      let more : on (length (given xs) + j) + 1 ≡ suc (length xs) + segment_start zs j = omega (arith, rest) in
      ap (segment_start (x ∷ (xs ++ zs))) count
      ∙ ap (λ (c : Bool). if c then (on (length (given xs) + j) + 1) else (on (suc (length (given xs) + j)) + 1)) is
      ∙ more
  by rest false is =
      let long : length (given (x ∷ xs)) ≡ length (given xs) = ap length (given_none (is_order x.event) x.event (given xs) is) in
      ap (λ (n : ℕ). segment_start (x ∷ (xs ++ zs)) (n + j)) long ∙ skip (length (given xs) + j) is rest

-- it begins with an order, if with anything
abbrev pub Begins : List HistItem → Type 0
Begins [] = Unit {0}
Begins (item ∷ items) = is_order item.event ≡ true

pub begins_at_once : (zs : List HistItem) → Begins zs → segment_start zs 0 ≡ 0
begins_at_once [] h = refl
begins_at_once (z ∷ zs) h = ap (λ (c : Bool). if c then 0 else (segment_start zs zero + 1)) h

block_begins : (session block : ℕ) (end : BlockState) (own ys : List HistItem) → RunsBlock session block end own → Begins (own ++ ys)
block_begins session block end [] ys runs = absurd runs
block_begins session block end (item ∷ items) ys runs = ap is_order runs.0

pub turns_begin : (setups : List (ℕ × ℕ)) (items ys : List HistItem) → RunInTurn setups items → Begins ys → Begins (items ++ ys)
turns_begin [] items ys runs h = subst (λ (w : List HistItem). Begins (w ++ ys)) (sym runs) h
turns_begin (s ∷ ss) items ys runs h =
    subst Begins (sym (ap (λ (w : List HistItem). w ++ ys) runs.2 ∙ append_assoc runs.0 runs.1 ys)) (block_begins s.0 s.1 Ended runs.0 (runs.1 ++ ys) runs.3)

pub middle : {X : Type 0} (xs own ys : List X) → slice_range (xs ++ (own ++ ys)) (length xs) (length xs + length own) ≡ own
middle xs own ys =
    let long : length xs + length own - length xs ≡ length own = omega arith in
    ap (take (length xs + length own - length xs)) (drop_at xs (own ++ ys) (length xs) refl)
    ∙ ap (λ (n : ℕ). take n (own ++ ys)) long
    ∙ take_at own ys (length own) refl

-- a block in the middle is its segment
pub segment_is : (session block : ℕ) (end : BlockState) (xs own ys : List HistItem) → RunsBlock session block end own → Begins ys → segment (xs ++ (own ++ ys)) (length (given xs)) ≡ own
segment_is session block end xs own ys runs h =
    let items = xs ++ (own ++ ys) in
    let k = length (given xs) in
    let one : length (given own) ≡ 1 = ap length (block_given session block end own runs) in
    let first : segment_start (own ++ ys) 0 ≡ 0 = begins_at_once (own ++ ys) (block_begins session block end own ys runs) in
    let here : k ≡ k + 0 = omega arith in
    let none_before : length xs + segment_start (own ++ ys) 0 ≡ length xs = omega (arith, first) in
    let from : segment_start items k ≡ length xs = ap (segment_start items) here ∙ (start_behind xs (own ++ ys) 0 ∙ none_before) in
    let its : 1 ≡ length (given own) + 0 = omega (arith, one) in
    let next = begins_at_once ys h in
    let none_behind : length own + segment_start ys 0 ≡ length own = omega (arith, next) in
    let behind_own : segment_start (own ++ ys) 1 ≡ length own = ap (segment_start (own ++ ys)) its ∙ (start_behind own ys 0 ∙ none_behind) in
    let to : segment_start items (k + 1) ≡ length xs + length own = start_behind xs (own ++ ys) 1 ∙ ap (λ (n : ℕ). length xs + n) behind_own in
    ap (λ (n : ℕ). slice_range items n (segment_start items (k + 1))) from ∙ (ap (slice_range items (length xs)) to ∙ middle xs own ys)

-- ---- how a block ended

-- what a reply's state says of it
pub ended_reply : (reply : Reply) → state_at reply ≡ Ended → (stops reply.outcome ≡ false) × (reply.ended ≡ true)
ended_reply reply h = by (stops reply.outcome) reply.ended refl refl where
  by : (s e : Bool) → stops reply.outcome ≡ s → reply.ended ≡ e → (stops reply.outcome ≡ false) × (reply.ended ≡ true)
  by true e is end = absurd cc
  by false true is end = (is, end)
  by false false is end = absurd cc

pub going_reply : (reply : Reply) → state_at reply ≡ GoesOn → (stops reply.outcome ≡ false) × (reply.ended ≡ false)
going_reply reply h = by (stops reply.outcome) reply.ended refl refl where
  by : (s e : Bool) → stops reply.outcome ≡ s → reply.ended ≡ e → (stops reply.outcome ≡ false) × (reply.ended ≡ false)
  by true e is end = absurd cc
  by false true is end = absurd cc
  by false false is end = (is, end)

pub stopped_reply : (reply : Reply) (ended : Bool) → state_at reply ≡ Stopped ended → stops reply.outcome ≡ true
stopped_reply reply ended h = by (stops reply.outcome) reply.ended refl refl where
  by : (s e : Bool) → stops reply.outcome ≡ s → reply.ended ≡ e → stops reply.outcome ≡ true
  by true e is end = is
  by false true is end = absurd cc
  by false false is end = absurd cc

sound : (o : Outcome) → stops o ≡ false → is_failed o ≡ false
sound Launched h = refl
sound Done h = refl
sound (Rows set) h = refl
sound Waits h = refl
sound (Failed fault) h = cc
sound Left h = refl

abbrev fails_in : List HistItem → Bool
fails_in items = list_any (λ (item : HistItem). is_failed item.reply.outcome) items

-- an item that carries out the event of a session ends its block where its reply does
ends_there : (session : ℕ) (item : HistItem) (event : Event) → item.event ≡ event → session_of event ≡ session → ends_in session item ≡ item.reply.ended
ends_there session item event is of = ap (λ (b : Bool). b && item.reply.ended) (eq-eqb (session_of item.event) session (ap session_of is ∙ of))

-- a block that ran to its end ended, and nothing in it failed
well_steps : (session : ℕ) (event : Event) (first : HistItem) (items : List HistItem) → first.event ≡ event → session_of event ≡ session → StepsTo session Ended first.reply items
    → (list_any (ends_in session) (first ∷ items) ≡ true) × (fails_in (first ∷ items) ≡ false)
well_steps session event first [] is of runs =
    let end = ended_reply first.reply runs in (
      or_left _ false (ends_there session first event is of ∙ end.1),
      or_from _ false (sound first.reply.outcome end.0) refl,
    )
well_steps session event first (item ∷ items) is of runs =
    let rest = well_steps session (Step session) item items runs.1 refl runs.2 in
    let going = going_reply first.reply runs.0 in (
      or_right (ends_in session first) _ rest.0,
      or_from _ _ (sound first.reply.outcome going.0) rest.1,
    )

well_from : (b c : Bool) → b ≡ true → c ≡ false → (b && not c) ≡ true
well_from true false h k = refl
well_from true true h k = cc
well_from false c h k = cc

pub well : (items : List HistItem) (k session block : ℕ) (own : List HistItem) → segment items k ≡ own → RunsBlock session block Ended own → went_well items k session ≡ true
well items k session block [] is runs = absurd runs
well items k session block (first ∷ rest) is runs =
    let w = well_steps session (Launch session block) first rest runs.0 refl runs.1 in
    well_from (is_over items k session) (fails_in (segment items k)) (ap (list_any (ends_in session)) is ∙ w.0) (ap fails_in is ∙ w.1)

-- one that stopped failed, or didn't end
ill_steps : (session : ℕ) (ended : Bool) (event : Event) (first : HistItem) (items : List HistItem) → first.event ≡ event → session_of event ≡ session → AllEndSo (first ∷ items) → StepsTo session (Stopped ended) first.reply items
    → (fails_in (first ∷ items) ≡ false → list_any (ends_in session) (first ∷ items) ≡ false)
ill_steps session ended event first [] is of all runs fine =
    or_from _ false (ends_there session first event is of ∙ not_over first.reply.outcome refl) refl
  where
    stop : stops first.reply.outcome ≡ true
    stop = stopped_reply first.reply ended runs

    not_over : (o : Outcome) → first.reply.outcome ≡ o → first.reply.ended ≡ false
    not_over Waits w = all.0.waits w
    not_over (Failed fault) w = absurd (true≢false (sym (or_left _ false (ap is_failed w)) ∙ fine))
    not_over Launched w = absurd (true≢false (sym stop ∙ ap stops w))
    not_over Done w = absurd (true≢false (sym stop ∙ ap stops w))
    not_over (Rows set) w = absurd (true≢false (sym stop ∙ ap stops w))
    not_over Left w = absurd (true≢false (sym stop ∙ ap stops w))
ill_steps session ended event first (item ∷ items) is of all runs fine =
    let going = going_reply first.reply runs.0 in
    let rest = ill_steps session ended (Step session) item items runs.1 refl all.1 runs.2 (or_parts (is_failed first.reply.outcome) _ fine).1 in
    or_from _ _ (ends_there session first event is of ∙ going.1) rest

ill_from : (b c : Bool) → (c ≡ false → b ≡ false) → (b && not c) ≡ false
ill_from true true h = refl
ill_from true false h = h refl
ill_from false c h = refl

pub ill : (items : List HistItem) (k session block : ℕ) (ended : Bool) (own : List HistItem) → segment items k ≡ own → AllEndSo own → RunsBlock session block (Stopped ended) own → went_well items k session ≡ false
ill items k session block ended [] is all runs = absurd runs
ill items k session block ended (first ∷ rest) is all runs =
    let w = ill_steps session ended (Launch session block) first rest runs.0 refl all runs.1 in
    ill_from (is_over items k session) (fails_in (segment items k))
    (λ fine. ap (list_any (ends_in session)) is ∙ w (sym (ap fails_in is) ∙ fine))

-- and its last statement stopped
same_stops : (o : Outcome) → stops o ≡ true → is_stop o ≡ true
same_stops Launched h = h
same_stops Done h = h
same_stops (Rows set) h = h
same_stops Waits h = h
same_stops (Failed fault) h = h
same_stops Left h = h

last_stops : (session : ℕ) (ended : Bool) (first : HistItem) (xs items : List HistItem) → StepsTo session (Stopped ended) first.reply items
    → option_map_or item_stops (slice_get (xs ++ first ∷ items) (length (xs ++ first ∷ items) - 1)) false ≡ true
last_stops session ended first xs [] runs =
    ap (λ (n : ℕ). option_map_or item_stops (slice_get (xs ++ first ∷ []) n) false) (let long = length-append xs (first ∷ []) in omega (arith, long))
    ∙ ap (λ (o : Option HistItem). option_map_or item_stops o false) (at_end xs first [])
    ∙ same_stops first.reply.outcome (stopped_reply first.reply ended runs)
  where
    at_end : (xs : List HistItem) (x : HistItem) (ys : List HistItem) → slice_get (xs ++ x ∷ ys) (length xs) ≡ Some x
    at_end [] x ys = refl
    at_end (y ∷ xs) x ys = at_end xs x ys
last_stops session ended first xs (item ∷ items) runs =
    let same = append_assoc xs (first ∷ []) (item ∷ items) in
    subst (λ (w : List HistItem). option_map_or item_stops (slice_get w (length w - 1)) false ≡ true) same (last_stops session ended item (xs ++ first ∷ []) items runs.2)

pub stopped : (session block : ℕ) (ended : Bool) (xs own : List HistItem) → RunsBlock session block (Stopped ended) own → option_map_or item_stops (slice_get (xs ++ own) (length (xs ++ own) - 1)) false ≡ true
stopped session block ended xs [] runs = absurd runs
stopped session block ended xs (first ∷ rest) runs = last_stops session ended first xs rest runs.1
