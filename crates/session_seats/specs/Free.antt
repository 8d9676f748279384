-- How far the sessions of a free run have come, and what each is given.
use Rattle.std.specs.Prelude.{ℕ, ◌-◌, ◌==◌, Bool, true, false, List, Option, None, length, map, slice_get, if◌then◌else◌}
use Rattle.std.specs.Option.{option_map_or}
use Rattle.std.specs.Global.{Vec}
use Rattle.session_machine.specs.declared.reply.Outcome.{Outcome}
use Rattle.session_machine.specs.declared.reply.Outcome.TheVariants.{Launched, Done, Rows, Waits, Failed, Left}
use Rattle.session_machine.specs.declared.reply.Reply.{Reply}
use Rattle.session_machine.specs.declared.reply.HistItem.{HistItem}
use Rattle.session_seats.specs.declared.free.BlockState.{BlockState}
use Rattle.session_seats.specs.declared.free.BlockState.TheVariants.{GoesOn, Ended, Stopped}
use Rattle.session_seats.specs.Seats.{SeatOf}

-- what came last in the seat, if anything did
abbrev pub last_item : SeatOf → Option HistItem
last_item seat = slice_get seat.items (length seat.items - 1)

-- the statement failed or waits
abbrev pub stops : Outcome → Bool
stops Launched = false
stops Done = false
stops (Rows set) = false
stops Waits = true
stops (Failed fault) = true
stops Left = false

-- how far the block has come with this reply: a statement failed or waits, or it has ended, or it goes on
abbrev pub state_at : Reply → BlockState
state_at reply = if stops reply.outcome then Stopped reply.ended else if reply.ended then Ended else GoesOn

-- how far the block has come that a session was given last, by what came last in its seat; where nothing was done yet there is none, and it has ended
abbrev pub block_state : Option HistItem → BlockState
block_state last = option_map_or (λ (item : HistItem). state_at item.reply) last Ended

-- no statement of the block is left
abbrev pub is_over : BlockState → Bool
is_over GoesOn = false
is_over Ended = true
is_over (Stopped ended) = ended

-- something may have been released with this outcome: any but that of a Launch or a wait
abbrev pub releases : Outcome → Bool
releases Launched = false
releases Waits = false
releases _ = true

-- what came last in a seat may have released something
abbrev pub may_release : Option HistItem → Bool
may_release last = option_map_or (λ (item : HistItem). releases item.reply.outcome) last false

-- the blocks of each script
abbrev pub scripts_in : List (Vec ℕ) → List (List ℕ)
scripts_in scripts = map (λ (script : Vec ℕ). script.items) scripts

-- the script of a session: the first is that of session 1, and the control session, which is session 0, has none
abbrev pub script_of : List (List ℕ) → ℕ → Option (List ℕ)
script_of scripts session = if session == 0 then None else slice_get scripts (session - 1)
