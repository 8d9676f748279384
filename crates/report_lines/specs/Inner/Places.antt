-- How the code finds segments and ends of blocks.
use Rattle.std.specs.Prelude.{◌≡◌, ℕ, ◌+◌, ◌<◌, ◌^◌, List, [], ◌∷◌, ◌++◌, length, get_or, slice_set, nat_lt, if◌then◌else◌}
use Rattle.session_machine.specs.declared.reply.HistItem.{HistItem}
use Rattle.session_machine.specs.Machine.{session_of}
use Rattle.report_lines.specs.Starts.{is_order}
use Rattle.report_lines.specs.History.{PermutationRun}
use Rattle.report_lines.specs.Code.Places.{starts_from}

-- these are the places of the history's orders
pub record IsFound (items : List HistItem) (starts : List ℕ) : Type 0 where
  pub starts_are : starts ≡ starts_from 0 items

-- the same for the history of a permutation
pub record IsCut (c : PermutationRun) (starts : List ℕ) : Type 0 where
  pub room : c.setups + length c.entries + 1 < 2 ^ 64
  pub starts_are : starts ≡ starts_from 0 c.items

-- none so far
abbrev pub IsZeros : List ℕ → Type 0
IsZeros last = (session : ℕ) → get_or last session 0 ≡ 0

-- a block of the session ended behind this item
abbrev pub ended_behind : List ℕ → ℕ → ℕ → List ℕ
ended_behind last session place = if nat_lt session (length last) then slice_set last session place else last

-- the last ends of blocks once this item has come, behind which that place is
abbrev pub ends_after : HistItem → ℕ → List ℕ → List ℕ
ends_after item place last = if item.reply.ended then ended_behind last (session_of item.event) place else last

-- the places of orders once the item at this place has come
abbrev pub starts_after : HistItem → ℕ → List ℕ → List ℕ
starts_after item place starts = if is_order item.event then starts ++ place ∷ [] else starts
