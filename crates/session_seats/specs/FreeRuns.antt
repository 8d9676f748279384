-- The histories that a free run may have, by the blocks that its sessions are given.
use Rattle.std.specs.Prelude.{◌≡◌, ◌⊎◌, ℕ, Bool, true, false, List, [], ◌∷◌, ◌++◌, map, take, slice_get, Some}
use Rattle.session_machine.specs.declared.event.Event.{Event}
use Rattle.session_machine.specs.declared.event.Event.TheVariants.{Launch, Step, Leave}
use Rattle.session_machine.specs.declared.reply.Reply.{Reply}
use Rattle.session_machine.specs.declared.reply.HistItem.{HistItem}
use Rattle.session_seats.specs.declared.free.BlockState.{BlockState}
use Rattle.session_seats.specs.declared.free.BlockState.TheVariants.{GoesOn, Ended, Stopped}
use Rattle.session_seats.specs.declared.free.FreePlan.{FreePlan}
use Rattle.session_seats.specs.Free.{state_at, script_of, scripts_in}
use Rattle.session_seats.specs.Seats.{items_of}

-- ---- blocks before the threads, one after the other

-- behind this reply the session steps as long as its block goes on, and with the last step the block has come to this state
abbrev pub StepsTo : ℕ → BlockState → Reply → List HistItem → Type 0
StepsTo session end reply [] = state_at reply ≡ end
StepsTo session end reply (item ∷ items) = (state_at reply ≡ GoesOn) × (item.event ≡ Step session) × StepsTo session end item.reply items

-- the session is given the block, and steps until it has come to this state
abbrev pub RunsBlock : ℕ → ℕ → BlockState → List HistItem → Type 0
RunsBlock session block end [] = ⊥
RunsBlock session block end (item ∷ items) = (item.event ≡ Launch session block) × StepsTo session end item.reply items

-- each of these blocks, of a session each, runs to its end before the next
abbrev pub RunInTurn : List (ℕ × ℕ) → List HistItem → Type 0
RunInTurn [] items = items ≡ []
RunInTurn (setup ∷ setups) items = (own : List HistItem) × (rest : List HistItem) × (items ≡ own ++ rest) × RunsBlock setup.0 setup.1 Ended own × RunInTurn setups rest

-- ---- a session that is given one thing after the other

-- the items are what a session does that is still to be given these events, and whose block is over or not: where it is over the session does the next of them, else it steps.
-- Behind the items the block is over or not, and these events are left
abbrev pub Does : ℕ → Bool → List Event → List HistItem → Bool → List Event → Type 0
Does session over events [] over_then left = (over ≡ over_then) × (events ≡ left)
Does session false events (item ∷ items) over_then left = (item.event ≡ Step session) × Does session item.reply.ended events items over_then left
Does session true [] (item ∷ items) over_then left = ⊥
Does session true (event ∷ events) (item ∷ items) over_then left = (item.event ≡ event) × Does session item.reply.ended events items over_then left

-- it does all of them, one after the other, and at the end its block is over
abbrev pub DoesAll : ℕ → List Event → List HistItem → Type 0
DoesAll session events items = Does session true events items true []

abbrev pub launches_in : ℕ → List ℕ → List Event
launches_in session blocks = map (λ block. Launch session block) blocks

-- a session is given its script, and leaves
abbrev pub script_events : ℕ → List ℕ → List Event
script_events session blocks = launches_in session blocks ++ Leave session ∷ []

-- the sessions' part: each that has a script does it and leaves, in any order between sessions, and the control session does nothing
pub record DoScripts (scripts : List (List ℕ)) (items : List HistItem) : Type 0 where
  pub own : (session : ℕ) (blocks : List ℕ) → script_of scripts session ≡ Some blocks → DoesAll session (script_events session blocks) (items_of session items)
  pub control : items_of 0 items ≡ []

-- ---- the whole

-- a block before the threads fails or waits, and with it the history ends
pub record IsCutShort (plan : FreePlan) (items : List HistItem) : Type 0 where
  pub number : ℕ
  pub setup : ℕ × ℕ
  pub ended : Bool
  pub before : List HistItem
  pub last : List HistItem
  pub whole : items ≡ before ++ last
  pub well : RunInTurn (take number plan.before.items) before
  pub there : slice_get plan.before.items number ≡ Some setup
  pub stops : RunsBlock setup.0 setup.1 (Stopped ended) last

-- all blocks before the threads go well, the control session leaves, the sessions do their scripts, and the control session its last blocks
pub record IsWholeRun (plan : FreePlan) (items : List HistItem) : Type 0 where
  pub before : List HistItem
  pub left : Reply
  pub between : List HistItem
  pub last : List HistItem
  pub whole : items ≡ before ++ record { event = Leave 0; reply = left } ∷ (between ++ last)
  pub well : RunInTurn plan.before.items before
  pub scripts : DoScripts (scripts_in plan.scripts.items) between
  pub after : DoesAll 0 (launches_in 0 plan.after.items) last

-- the history is that of a free run of the plan
abbrev pub FitsPlan : FreePlan → List HistItem → Type 0
FitsPlan plan items = IsCutShort plan items ⊎ IsWholeRun plan items
