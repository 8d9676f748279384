-- Where the orders of a history stand and blocks ended, as what is kept of it says.
use Rattle.std.specs.Prelude.{◌≡◌, ℕ, ◌+◌, ◌<◌, ◌^◌, List, [], ◌∷◌, length, get_or, if◌then◌else◌}
use Rattle.session_machine.specs.declared.reply.HistItem.{HistItem}
use Rattle.report_lines.specs.Starts.{is_order, ends_in}
use Rattle.report_lines.specs.History.{PermutationRun}

-- the places of the orders of a history, whose first item has this one
abbrev pub starts_from : ℕ → List HistItem → List ℕ
starts_from place [] = []
starts_from place (item ∷ items) =
    if is_order item.event then place ∷ starts_from (place + 1) items else starts_from (place + 1) items

-- behind which item the last block of the session ended; the first item's place is given, and what holds where no block ends
abbrev pub last_end : ℕ → ℕ → ℕ → List HistItem → ℕ
last_end session place found [] = found
last_end session place found (item ∷ items) = last_end session (place + 1) (if ends_in session item then (place + 1) else found) items

-- behind these items the last blocks of the sessions ended, as far as the list goes; 0 is for none
pub record IsTimed (c : PermutationRun) (last : List ℕ) : Type 0 where
  pub room : c.setups + length c.entries + 1 < 2 ^ 64
  pub ends_at : (session : ℕ) → session < length last → get_or last session 0 ≡ last_end session 0 0 c.items

-- these are the places of the history's orders, and those are the ends of the sessions' last blocks
pub record IsSeen (c : PermutationRun) (starts last : List ℕ) : Type 0 where
  pub starts_are : starts ≡ starts_from 0 c.items
  pub timed : IsTimed c last
