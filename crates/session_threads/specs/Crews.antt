-- The runs that a crew has served, beside what their drivers ordered.
use Rattle.std.specs.Prelude.{◌≡◌, ℕ, List, [], Result, IfOk, IfErr, true}
use Rattle.row_versions.specs.Log.{Content, empty_content}
use Rattle.session_machine.specs.Machine.{Blocks}
use Rattle.session_machine.specs.declared.reply.HistItem.{HistItem}
use Rattle.session_machine.specs.Engine.{is_quiet_in}
use Rattle.session_machine.specs.declared.event.Mode.TheVariants.{Directed}
use Rattle.session_core.specs.Engines.{IsOf}
use Rattle.session_seats.specs.declared.fault.ThreadFault.{ThreadFault}
use Rattle.session_seats.specs.Orders.{Orders, IsDriven}
use Rattle.session_seats.specs.Refusals.{MayStop}
use Rattle.session_threads.specs.Closing.{ClosedOf}
use Rattle.session_threads.specs.declared.opening.Run.{Run}

-- a closed run over these blocks and so many sessions, in which nothing goes on and which these orders have driven to a Stop
pub record RanBy (blocks : Blocks) (count : ℕ) (orders : Orders) (closed : ClosedOf) : Type 0 where
  pub of : IsOf closed.state blocks count Directed
  pub quiet : is_quiet_in closed.state.machine ≡ true
  pub driven : IsDriven orders closed.state.history

-- the run was closed behind a Stop of these orders, or stopped by what may stop it
pub record CameBy (blocks : Blocks) (count : ℕ) (orders : Orders) (run : Result ClosedOf ThreadFault) : Type 0 where
  pub ran : IfOk run (RanBy blocks count orders)
  pub stopped : IfErr run (MayStop orders blocks count)

-- a run that waits at a place: no row stands in its store, its driver may follow from the beginning, and its orders are those of the place
pub record Waits {V D : Type 0} (content : V → Content) (order_after : D → Orders) (follows : D → List HistItem → Type 0) (at : ℕ → Orders) (place : ℕ) (run : Run V D) : Type 0 where
  pub empty : content run.store ≡ empty_content
  pub from_start : follows run.driver []
  pub own : order_after run.driver ≡ at place
