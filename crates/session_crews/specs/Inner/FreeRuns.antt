-- What a free run has done so far.
use Rattle.std.specs.Prelude.{◌≡◌, ℕ, ◌+◌, Bool, true, false, List, [], ◌∷◌, ◌++◌, length, slice_get, Option, Some, None, is_some}
use Rattle.session_machine.specs.declared.event.Event.{Event}
use Rattle.session_machine.specs.declared.event.Event.TheVariants.{Step, Leave}
use Rattle.session_machine.specs.declared.reply.Reply.{Reply}
use Rattle.session_machine.specs.declared.reply.HistItem.{HistItem}
use Rattle.session_machine.specs.Engine.{Engine}
use Rattle.session_seats.specs.declared.fault.ThreadFault.{ThreadFault}
use Rattle.session_seats.specs.declared.free.BlockState.{BlockState}
use Rattle.session_seats.specs.Acts.{IsRunOf}
use Rattle.session_seats.specs.Free.{state_at}
use Rattle.session_seats.specs.FreeRuns.{Does, DoesAll, DoScripts, RunInTurn, RunsBlock, launches_in, script_events}
use Rattle.session_seats.specs.Seats.{items_of}

-- the engine has gone on by these items
pub record WentOn (before after : Engine) (items : List HistItem) : Type 0 where
  pub of : IsRunOf before after
  pub history : after.history ≡ before.history ++ items
  pub unspent : is_some before.machine ≡ true → is_some after.machine ≡ true

-- the event was done, and with its reply the session's block has come to this state
pub record Did (event : Event) (before after : Engine) (state : BlockState) : Type 0 where
  pub reply : Reply
  pub went : WentOn before after (record { event = event; reply = reply } ∷ [])
  pub reached : state ≡ state_at reply

-- the block was run in the session, and has come to this state
pub record RanBlock (session block : ℕ) (before after : Engine) (state : BlockState) : Type 0 where
  pub items : List HistItem
  pub went : WentOn before after items
  pub runs : RunsBlock session block state items

-- ---- a session's part in the sessions' part

-- a session: whether its block is over, and what is still to be given to it
pub record ProgressOf : Type 0 where
  pub session : ℕ
  pub over : Bool
  pub events : List Event

-- what the session does next
abbrev pub next_event : ℕ → Bool → List Event → Option Event
next_event session false events = Some (Step session)
next_event session true [] = None
next_event session true (event ∷ events) = Some event

-- what is still to be given to it then
abbrev pub left_after : Bool → List Event → List Event
left_after false events = events
left_after true [] = []
left_after true (event ∷ events) = events

-- what is still to be given to a session that has these blocks of its script left, or has left
abbrev pub events_left : ℕ → Bool → List ℕ → List Event
events_left session true blocks = []
events_left session false blocks = script_events session blocks

-- the session has done its part of these items, and has come so far
abbrev pub IsAt : List (List ℕ) → List HistItem → ℕ → ProgressOf → Type 0
IsAt scripts items k p =
    (p.session ≡ k + 1)
    × ((blocks : List ℕ) → slice_get scripts k ≡ Some blocks → Does (k + 1) true (script_events (k + 1) blocks) (items_of (k + 1) items) p.over p.events)

-- the sessions have gone on with their scripts from where their threads began
pub record RunsScripts (start : Engine) (scripts : List (List ℕ)) (engine : Engine) (progress : List ProgressOf) (fault : Option ThreadFault) : Type 0 where
  pub items : List HistItem
  pub of : IsRunOf start engine
  pub history : engine.history ≡ start.history ++ items
  pub unspent : fault ≡ None → is_some engine.machine ≡ true
  pub control : items_of 0 items ≡ []
  pub count : length progress ≡ length scripts
  pub each : (k : ℕ) (p : ProgressOf) → slice_get progress k ≡ Some p → IsAt scripts items k p

-- what stands behind the lock of a free run
pub record FreeSharedOf : Type 0 where
  pub engine : Engine
  pub progress : List ProgressOf
  pub fault : Option ThreadFault

-- each session stands at the beginning of its script
abbrev pub AreAtStart : List (List ℕ) → List ProgressOf → Type 0
AreAtStart scripts progress = (length progress ≡ length scripts) × ((k : ℕ) (p : ProgressOf) → slice_get progress k ≡ Some p → IsAt scripts [] k p)

-- the event is what the session does next
pub record IsNextOf (progress : List ProgressOf) (number : ℕ) (event : Event) : Type 0 where
  pub place : ℕ
  pub at : ProgressOf
  pub is : number ≡ place + 1
  pub there : slice_get progress place ≡ Some at
  pub next : next_event at.session at.over at.events ≡ Some event

-- nothing is next for the session: it has done its script, or has none
abbrev pub NothingIsNextOf : List ProgressOf → ℕ → Type 0
NothingIsNextOf progress number = (event : Event) → ¬ IsNextOf progress number event

-- each of these sessions has done its script
abbrev pub HaveDone : List ProgressOf → Type 0
HaveDone progress = (k : ℕ) (p : ProgressOf) → slice_get progress k ≡ Some p → (p.over ≡ true) × (p.events ≡ [])

-- the sessions have done their scripts, each to its end
pub record AllDone (start : Engine) (scripts : List (List ℕ)) (engine : Engine) : Type 0 where
  pub items : List HistItem
  pub history : engine.history ≡ start.history ++ items
  pub unspent : is_some engine.machine ≡ true
  pub own : DoScripts scripts items

-- ---- the whole

-- the setups have gone well, one after the other
pub record IsSetUp (setups : List (ℕ × ℕ)) (before after : Engine) : Type 0 where
  pub items : List HistItem
  pub went : WentOn before after items
  pub runs : RunInTurn setups items

-- the control session has left
abbrev pub Left : Engine → Engine → Type 0
Left before after = (reply : Reply) × WentOn before after (record { event = Leave 0; reply = reply } ∷ [])

-- the control session has done its last blocks
pub record DidLast (blocks : List ℕ) (before after : Engine) : Type 0 where
  pub items : List HistItem
  pub went : WentOn before after items
  pub does : DoesAll 0 (launches_in 0 blocks) items
