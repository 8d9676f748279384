-- What a crew asks of who keeps what there is of its runs.
use Rattle.std.specs.Prelude.{ℕ, List}
use Rattle.session_machine.specs.declared.reply.HistItem.{HistItem}
use Rattle.session_machine.specs.Engine.{Engine}
use Rattle.session_seats.specs.Orders.{Orders}
use Rattle.session_crews.specs.declared.joined.Joined.{Joined}
use Rattle.session_crews.specs.declared.shared.Opened.{Opened}
use Rattle.session_crews.specs.Crews.{IsOver, IsNew}

-- for how many sessions beside the control session runs are served, and how many runs wait
pub record CounterOf : Type 0 where
  pub sessions : ℕ
  pub waiting : ℕ

module _ {E S D T : Type 0} where
  -- what waits is new, who keeps runs may be told of each that is over, and what it keeps is as the crew has it, each at its place
  pub record Serves (engine : E → Engine) (order_after : D → Orders) (follows : D → List HistItem → Type 0) (orders : ℕ → Orders)
      (is_ready : Type 0) (ends : ℕ → Joined E S → Type 0) (keeps : ℕ → T → Type 0) (waits : ℕ → Opened E D → Type 0) (kept : ℕ → T → Type 0) : Type 0 where
    pub ready : is_ready
    pub begins : (place : ℕ) (run : Opened E D) → waits place run → IsNew (orders run.place) (engine run.engine) (order_after run.driver) (follows run.driver)
    pub may_end : (place : ℕ) (left : Joined E S) → IsOver (orders place) (engine left.engine) left.met left.late → ends place left
    pub is_kept : (place : ℕ) (item : T) → keeps place item → kept place item
