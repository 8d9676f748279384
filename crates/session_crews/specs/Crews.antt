-- The runs of a crew.
use Rattle.std.specs.Prelude.{◌≡◌, ◌≤◌, ℕ, ◌+◌, List, [], ◌∷◌, Option, None, IfSome, true}
use Rattle.iso_lexer.specs.declared.limits.TheConstants.{MOST_SESSIONS}
use Rattle.session_machine.specs.declared.fault.EngineFault.TheVariants as engine_faults
use Rattle.session_machine.specs.declared.reply.HistItem.{HistItem}
use Rattle.session_machine.specs.Engine.{Engine, is_quiet_in}
use Rattle.session_seats.specs.declared.fault.ThreadFault.{ThreadFault}
use Rattle.session_seats.specs.declared.fault.ThreadFault.TheVariants as thread_faults
use Rattle.session_seats.specs.Orders.{Orders, IsDriven}
use Rattle.session_seats.specs.Refusals.{MayMeet}
use Rattle.session_crews.specs.declared.joined.Joined.{Joined}
use Rattle.session_crews.specs.declared.shared.Opened.{Opened}

-- it holds of each of these and its place, where the first stands at this one
abbrev pub EachFrom : {X : Type 0} → (ℕ → X → Type 0) → ℕ → List X → Type 0
EachFrom holds place [] = Unit {0}
EachFrom holds place (x ∷ behind) = holds place x × EachFrom holds (place + 1) behind

-- a run by these orders begins: nothing has happened in its engine, they are its driver's, and it may follow from the beginning
pub record IsNew (orders : Orders) (engine : Engine) (driven : Orders) (follows : List HistItem → Type 0) : Type 0 where
  pub new : engine.history ≡ []
  pub own : driven ≡ orders
  pub from_start : follows []

-- a run by these orders is over: a fault that was met is one that may be met, and where nothing was seen against its end these orders drove it to a Stop, and nothing goes on
pub record IsOver (orders : Orders) (engine : Engine) (met late : Option ThreadFault) : Type 0 where
  pub may : IfSome met (MayMeet orders engine)
  pub seen : IfSome late (λ fault. fault ≡ thread_faults.Engine engine_faults.NotYourTurn)
  pub quiet : late ≡ None → is_quiet_in engine.machine ≡ true
  pub driven : late ≡ None → IsDriven orders engine.history

-- these runs may be served: there are no more sessions than there may be, each run is new and at its place, and who keeps runs may be told of each that is over by the orders of its place
pub record MayServe {E S D : Type 0} (engine : E → Engine) (order_after : D → Orders) (follows : D → List HistItem → Type 0) (orders : ℕ → Orders)
    (is_ready : Type 0) (ends : ℕ → Joined E S → Type 0) (sessions : ℕ) (runs : List (Opened E D)) : Type 0 where
  pub few : sessions ≤ MOST_SESSIONS
  pub new : EachFrom (λ place (run : Opened E D). IsNew (orders run.place) (engine run.engine) (order_after run.driver) (follows run.driver)) 0 runs
  pub ready : is_ready
  pub may_end : (place : ℕ) (left : Joined E S) → IsOver (orders place) (engine left.engine) left.met left.late → ends place left
