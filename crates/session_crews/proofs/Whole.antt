-- The parts of a free run, put together.
use Rattle.std.proofs.Common.{◌≡◌, ◌∙◌, refl, sym, ap, subst, ℕ, List, [], ◌∷◌, ◌++◌, append_assoc, take, true, inr}
use Rattle.std.specs.Prelude.{Some, is_some, slice_get}
use Rattle.session_machine.specs.declared.event.Event.TheVariants.{Launch, Step, Leave}
use Rattle.session_machine.specs.declared.reply.HistItem.{HistItem}
use Rattle.session_machine.specs.Engine.{Engine}
use Rattle.session_seats.specs.declared.free.BlockState.{BlockState}
use Rattle.session_seats.specs.declared.free.BlockState.TheVariants.{GoesOn, Ended, Stopped}
use Rattle.session_seats.specs.declared.free.FreePlan.{FreePlan}
use Rattle.session_seats.specs.Free.{is_over, scripts_in}
use Rattle.session_seats.specs.FreeRuns.{RunsBlock, IsCutShort, FitsPlan}
use Rattle.session_crews.specs.Inner.FreeRuns.{AllDone, Did, DidLast, IsSetUp, Left, RanBlock}
use Rattle.session_crews.proofs.Going.{went_on, went_nowhere}
use Rattle.session_crews.proofs.Blocks.{runs_on, in_turn_on, blocks_do}

-- a block is begun, and goes on
pub block_begins : (session block : ℕ) (a b : Engine) (state : BlockState) → Did (Launch session block) a b state → RanBlock session block a b state
block_begins session block a b state d = record { items = record { event = Launch session block; reply = d.reply } ∷ []; went = d.went; runs = (refl, sym d.reached) }

pub block_on : (session block : ℕ) (a b c : Engine) (state next : BlockState) → RanBlock session block a b state → state ≡ GoesOn → Did (Step session) b c next → RanBlock session block a c next
block_on session block a b c state next ran goes d =
    let item : HistItem = record { event = Step session; reply = d.reply } in
    record {
      items = ran.items ++ item ∷ [];
      went = went_on a b c ran.items (item ∷ []) ran.went d.went;
      runs = subst (λ (s : BlockState). RunsBlock session block s (ran.items ++ item ∷ [])) (sym d.reached)
          (runs_on session block ran.items item (subst (λ (s : BlockState). RunsBlock session block s ran.items) goes ran.runs) refl);
    }

-- the setups begin, and one more goes well
pub none_set_up : (a : Engine) → IsSetUp [] a a
none_set_up a = record { items = []; went = went_nowhere a; runs = refl }

pub set_up_on : (setups : List (ℕ × ℕ)) (setup : ℕ × ℕ) (a b c : Engine) → IsSetUp setups a b → RanBlock setup.0 setup.1 b c Ended → IsSetUp (setups ++ setup ∷ []) a c
set_up_on setups setup a b c so_far ran = record {
  items = so_far.items ++ ran.items;
  went = went_on a b c so_far.items ran.items so_far.went ran.went;
  runs = in_turn_on setups setup so_far.items ran.items so_far.runs ran.runs;
}

-- one of them stops the run
pub cut_short : (plan : FreePlan) (number : ℕ) (setup : ℕ × ℕ) (ended : _) (a b c : Engine) → a.history ≡ [] → IsSetUp (take number plan.before.items) a b → slice_get plan.before.items number ≡ Some setup
    → RanBlock setup.0 setup.1 b c (Stopped ended) → IsCutShort plan c.history × (is_some a.machine ≡ true → is_some c.machine ≡ true)
cut_short plan number setup ended a b c empty so_far there ran = (
  record {
    number = number;
    setup = setup;
    ended = ended;
    before = so_far.items;
    last = ran.items;
    whole = ran.went.history ∙ ap (λ (w : List HistItem). w ++ ran.items) (so_far.went.history ∙ ap (λ (w : List HistItem). w ++ so_far.items) empty);
    well = so_far.runs;
    there = there;
    stops = ran.runs;
  },
  λ was. ran.went.unspent (so_far.went.unspent was),
)

-- the last blocks begin, and one more is over
pub none_last : (a : Engine) → DidLast [] a a
none_last a = record { items = []; went = went_nowhere a; does = (refl, refl) }

pub last_on : (blocks : List ℕ) (block : ℕ) (a b c : Engine) (end : BlockState) → DidLast blocks a b → RanBlock 0 block b c end → is_over end ≡ true → DidLast (blocks ++ block ∷ []) a c
last_on blocks block a b c end so_far ran over = record {
  items = so_far.items ++ ran.items;
  went = went_on a b c so_far.items ran.items so_far.went ran.went;
  does = blocks_do 0 block end blocks so_far.items ran.items so_far.does ran.runs over;
}

-- all of it
pub whole_run : (plan : FreePlan) (a b c d e : Engine) → a.history ≡ [] → IsSetUp plan.before.items a b → Left b c → AllDone c (scripts_in plan.scripts.items) d → DidLast plan.after.items d e
    → FitsPlan plan e.history
whole_run plan a b c d e empty set_up left done last =
    let item : HistItem = record { event = Leave 0; reply = left.0 } in
    let before = set_up.items in
    let behind_setups : c.history ≡ before ++ item ∷ [] =
    left.1.history ∙ ap (λ (w : List HistItem). w ++ item ∷ []) (set_up.went.history ∙ ap (λ (w : List HistItem). w ++ before) empty) in
    let all : e.history ≡ ((before ++ item ∷ []) ++ done.items) ++ last.items =
    last.went.history ∙ ap (λ (w : List HistItem). w ++ last.items) (done.history ∙ ap (λ (w : List HistItem). w ++ done.items) behind_setups) in
    inr (record {
      before = before;
      left = left.0;
      between = done.items;
      last = last.items;
      whole = all ∙ (append_assoc (before ++ item ∷ []) done.items last.items ∙ append_assoc before (item ∷ []) (done.items ++ last.items));
      well = set_up.runs;
      scripts = done.own;
      after = last.does;
    })
