-- Blocks one after the other.
use Rattle.std.proofs.Common.{◌≡◌, ◌∙◌, refl, sym, ap, subst, ℕ, List, [], ◌∷◌, ◌++◌, append-nil, append_assoc, Bool, true, false}
use Rattle.session_machine.specs.declared.event.Event.{Event}
use Rattle.session_machine.specs.declared.event.Event.TheVariants.{Launch, Step}
use Rattle.session_machine.specs.declared.reply.HistItem.{HistItem}
use Rattle.session_machine.specs.declared.reply.Reply.{Reply}
use Rattle.session_seats.specs.declared.free.BlockState.{BlockState}
use Rattle.session_seats.specs.declared.free.BlockState.TheVariants.{GoesOn, Ended}
use Rattle.session_seats.specs.Free.{state_at, stops, is_over}
use Rattle.session_seats.specs.FreeRuns.{StepsTo, RunsBlock, RunInTurn, Does, DoesAll, launches_in}

-- a block that goes on, by one step more
steps_on : (session : ℕ) (first : Reply) (items : List HistItem) (item : HistItem) → StepsTo session GoesOn first items → item.event ≡ Step session → StepsTo session (state_at item.reply) first (items ++ item ∷ [])
steps_on session first [] item so_far step = (so_far, step, refl)
steps_on session first (i ∷ is) item so_far step = (so_far.0, so_far.1, steps_on session i.reply is item so_far.2 step)

pub runs_on : (session block : ℕ) (items : List HistItem) (item : HistItem) → RunsBlock session block GoesOn items → item.event ≡ Step session → RunsBlock session block (state_at item.reply) (items ++ item ∷ [])
runs_on session block [] item so_far step = absurd so_far
runs_on session block (i ∷ is) item so_far step = (so_far.0, steps_on session i.reply is item so_far.1 step)

-- blocks that were run, and one more
pub in_turn_on : (setups : List (ℕ × ℕ)) (setup : ℕ × ℕ) (items own : List HistItem) → RunInTurn setups items → RunsBlock setup.0 setup.1 Ended own → RunInTurn (setups ++ setup ∷ []) (items ++ own)
in_turn_on [] setup items own so_far runs = (own, [], ap (λ (w : List HistItem). w ++ own) so_far ∙ sym (append-nil own), runs, refl)
in_turn_on (s ∷ ss) setup items own so_far runs =
    let first = so_far.0 in
    let rest = so_far.1 in
    (first, rest ++ own, ap (λ (w : List HistItem). w ++ own) so_far.2 ∙ append_assoc first rest own, so_far.3, in_turn_on ss setup rest own so_far.4 runs)

-- ---- what a session does

-- it does these items, and then those
pub does_then : (session : ℕ) (over : Bool) (events : List Event) (items more : List HistItem) (over_then : Bool) (left : List Event) (over_last : Bool) (left_last : List Event)
    → Does session over events items over_then left → Does session over_then left more over_last left_last → Does session over events (items ++ more) over_last left_last
does_then session over events [] more over_then left over_last left_last one two =
    subst (λ (o : Bool). Does session o events more over_last left_last) (sym one.0) (subst (λ (es : List Event). Does session over_then es more over_last left_last) (sym one.1) two)
does_then session false events (i ∷ is) more over_then left over_last left_last one two =
    (one.0, does_then session i.reply.ended events is more over_then left over_last left_last one.1 two)
does_then session true [] (i ∷ is) more over_then left over_last left_last one two = absurd one
does_then session true (e ∷ es) (i ∷ is) more over_then left over_last left_last one two =
    (one.0, does_then session i.reply.ended es is more over_then left over_last left_last one.1 two)

-- with more events to come it does the same
pub does_before : (session : ℕ) (over : Bool) (events : List Event) (items : List HistItem) (over_then : Bool) (left more : List Event)
    → Does session over events items over_then left → Does session over (events ++ more) items over_then (left ++ more)
does_before session over events [] over_then left more does = (does.0, ap (λ (w : List Event). w ++ more) does.1)
does_before session false events (i ∷ is) over_then left more does = (does.0, does_before session i.reply.ended events is over_then left more does.1)
does_before session true [] (i ∷ is) over_then left more does = absurd does
does_before session true (e ∷ es) (i ∷ is) over_then left more does = (does.0, does_before session i.reply.ended es is over_then left more does.1)

-- a reply after which the block goes on isn't its last
not_ended : (stop ended : Bool) (reply : Reply) → stops reply.outcome ≡ stop → reply.ended ≡ ended → state_at reply ≡ GoesOn → ended ≡ false
not_ended true ended reply a b is = absurd cc
not_ended false true reply a b is = absurd cc
not_ended false false reply a b is = refl

-- with its last reply the block is over or not
pub over_with : (stop ended : Bool) (reply : Reply) → stops reply.outcome ≡ stop → reply.ended ≡ ended → is_over (state_at reply) ≡ ended
over_with true ended reply a b = cc
over_with false true reply a b = cc
over_with false false reply a b = cc

-- a block that is run to its end is what a session does that is to be given it
steps_do : (session : ℕ) (end : BlockState) (first : Reply) (items : List HistItem) → StepsTo session end first items → is_over end ≡ true → Does session first.ended [] items true []
steps_do session end first [] runs over =
    (sym (over_with (stops first.outcome) first.ended first refl refl) ∙ (ap is_over runs ∙ over), refl)
steps_do session end first (i ∷ is) runs over =
    subst (λ (b : Bool). Does session b [] (i ∷ is) true []) (sym (not_ended (stops first.outcome) first.ended first refl refl runs.0)) (runs.1, steps_do session end i.reply is runs.2 over)

pub block_does : (session block : ℕ) (end : BlockState) (items : List HistItem) → RunsBlock session block end items → is_over end ≡ true → DoesAll session (Launch session block ∷ []) items
block_does session block end [] runs over = absurd runs
block_does session block end (i ∷ is) runs over = (runs.0, steps_do session end i.reply is runs.1 over)

pub blocks_do : (session block : ℕ) (end : BlockState) (blocks : List ℕ) (items own : List HistItem) → DoesAll session (launches_in session blocks) items → RunsBlock session block end own → is_over end ≡ true
    → DoesAll session (launches_in session (blocks ++ block ∷ [])) (items ++ own)
blocks_do session block end blocks items own so_far runs over =
    let last = Launch session block ∷ [] in
    let all : launches_in session (blocks ++ block ∷ []) ≡ launches_in session blocks ++ last = launches_push session blocks block in
    subst (λ (es : List Event). DoesAll session es (items ++ own)) (sym all)
    (does_then session true (launches_in session blocks ++ last) items own true last true [] (does_before session true (launches_in session blocks) items true [] last so_far) (block_does session block end own runs over))
  where
    launches_push : (session : ℕ) (blocks : List ℕ) (block : ℕ) → launches_in session (blocks ++ block ∷ []) ≡ launches_in session blocks ++ Launch session block ∷ []
    launches_push session [] block = refl
    launches_push session (b ∷ bs) block = ap (λ (es : List Event). Launch session b ∷ es) (launches_push session bs block)
