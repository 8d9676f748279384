-- The blocks that sessions are in, as a history tells it.
use Rattle.std.specs.Prelude.{◌≡◌, ℕ, false, List, ◌∷◌, ◌++◌}
use Rattle.std.specs.List.{list_any}
use Rattle.session_machine.specs.declared.event.Event.TheVariants.{Launch}
use Rattle.session_machine.specs.declared.reply.HistItem.{HistItem}
use Rattle.report_lines.specs.Starts.{ends_in}

-- the session was given a block, and no item since ended it
pub record IsUnfinished (items : List HistItem) (session : ℕ) : Type 0 where
  pub before : List HistItem
  pub launched : HistItem
  pub behind : List HistItem
  pub parts : items ≡ before ++ launched ∷ behind
  pub block : ℕ
  pub given : launched.event ≡ Launch session block
  pub since : list_any (ends_in session) (launched ∷ behind) ≡ false
