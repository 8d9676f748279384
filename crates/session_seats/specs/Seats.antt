-- A session's seat, which holds its own items, and that these are the history's.
use Rattle.std.specs.Prelude.{◌≡◌, ℕ, ◌+◌, ◌<◌, nat_eq, nat_lt, Bool, true, false, List, [], ◌∷◌, ◌++◌, map}
use Rattle.std.specs.List.{filter, range_with_len}
use Rattle.session_machine.specs.declared.event.Event.{Event}
use Rattle.session_machine.specs.declared.reply.Reply.{Reply}
use Rattle.session_machine.specs.declared.reply.HistItem.{HistItem}
use Rattle.session_machine.specs.Machine.{session_of}

-- a session's number, and its events with their replies
pub record SeatOf : Type 0 where
  pub session : ℕ
  pub items : List HistItem

-- the session's seat in which nothing stands
abbrev pub empty_seat : ℕ → SeatOf
empty_seat session = record { session = session; items = [] }

-- an empty seat for the control session, which is session 0, and for each of so many sessions beside it, in the order of their numbers
abbrev pub empty_seats : ℕ → List SeatOf
empty_seats count = map empty_seat (range_with_len 0 (count + 1))

-- the items of one session, in order
abbrev pub items_of : ℕ → List HistItem → List HistItem
items_of session history = filter (λ i. nat_eq (session_of i.event) session) history

-- the seats of this session
abbrev pub seats_of : ℕ → List SeatOf → List SeatOf
seats_of session seats = filter (λ s. nat_eq s.session session) seats

-- the one seat that holds the session's items, or none
abbrev pub seat_if : Bool → ℕ → List HistItem → List SeatOf
seat_if true session history = record { session = session; items = items_of session history } ∷ []
seat_if false session history = []

-- the control session, which is session 0, and so many sessions beside it have one seat each,
-- which holds the session's items of the history; no other session has one
abbrev pub FitsIn : List HistItem → ℕ → List SeatOf → ℕ → Type 0
FitsIn history count seats session = seats_of session seats ≡ seat_if (nat_lt session (count + 1)) session history

abbrev pub AllFitIn : List HistItem → ℕ → List SeatOf → Type 0
AllFitIn history count seats = (session : ℕ) → FitsIn history count seats session

-- the least session whose seats don't fit
abbrev pub IsMisfitIn : List HistItem → ℕ → List SeatOf → ℕ → Type 0
IsMisfitIn history count seats session = ¬ (FitsIn history count seats session) × ((lower : ℕ) → lower < session → FitsIn history count seats lower)

-- the item stands last in the seat
abbrev pub with_item : SeatOf → Event → Reply → SeatOf
with_item seat event reply = record seat { items = seat.items ++ record { event = event; reply = reply } ∷ [] }
