-- To be believed. The machine of all sessions: what an event makes of it and answers, or why it is refused.
use Rattle.std.specs.Prelude.{◌≡◌, ℕ, ◌+◌, ◌==◌, nat_le, nat_lt, Bool, true, false, not, ◌&&◌, ◌||◌, List, [], ◌∷◌, length, replicate}
use Rattle.std.specs.Prelude.{Option, Some, None, option_map, is_some, is_none, unwrap_or, slice_get, slice_set, if◌then◌else◌, Result, Ok, Err}
use Rattle.std.specs.List.{list_all, list_any, position_from}
use Rattle.std.specs.Option.{option_map_or, option_or}
use Rattle.sql_trees.specs.Statements.{StmtTree}
use Rattle.sql_values.specs.declared.value.Value.{Value}
use Rattle.session_machine.specs.declared.session.Place.{Place}
use Rattle.session_machine.specs.declared.session.Transaction.{Transaction}
use Rattle.session_machine.specs.declared.session.Transaction.TheVariants.{Closed, Open}
use Rattle.session_machine.specs.declared.session.Waiting.{Waiting}
use Rattle.session_machine.specs.declared.session.Progress.{Progress}
use Rattle.session_machine.specs.declared.session.Session.{Session}
use Rattle.session_machine.specs.declared.event.Event.{Event}
use Rattle.session_machine.specs.declared.event.Event.TheVariants.{Launch, Step, Leave}
use Rattle.session_machine.specs.declared.event.Mode.{Mode}
use Rattle.session_machine.specs.declared.event.Mode.TheVariants.{Directed, Free}
use Rattle.session_machine.specs.declared.reply.Outcome.{Outcome}
use Rattle.session_machine.specs.declared.reply.Outcome.TheVariants.{Launched, Failed, Left}
use Rattle.session_machine.specs.declared.reply.Reply.{Reply}
use Rattle.session_machine.specs.declared.reply.HistItem.{HistItem}
use Rattle.session_machine.specs.declared.fault.Refusal.{Refusal}
use Rattle.session_machine.specs.declared.fault.Refusal.TheVariants.{Busy, NotYourTurn, StillBlocked, Idle, NoSession, BlockNotAllowed}
use Rattle.session_machine.specs.Tables.{Database, find_table}
use Rattle.session_machine.specs.Transactions.{committed, rolled_back, own_of, view_now}
use Rattle.session_machine.specs.Views.{rows_shown}
use Rattle.session_machine.specs.Waits.{is_still_blocked, wait_of}
use Rattle.session_machine.specs.Statements.{Effect, Surroundings}
use Rattle.session_machine.specs.Running.{run_stmt, is_definition}

-- what all sessions share, what each does, and how many events there were
pub record Machine : Type 0 where
  pub db : Database
  pub sessions : List Session
  pub events : ℕ

abbrev pub Blocks : Type 0
Blocks = List (List StmtTree)

abbrev pub at_rest : Session
at_rest = record { place = None; transaction = Closed; statement = None }

abbrev pub empty_database : Database
empty_database = record { content = record { log = []; fates = [] }; catalog = record { tables = []; drops = [] }; held = [] }

-- nothing has happened; beside the control session, which is session 0, there are so many
abbrev pub opening : ℕ → Machine
opening count = record { db = empty_database; sessions = replicate (count + 1) at_rest; events = 0 }

abbrev pub stmts_of : Blocks → ℕ → List StmtTree
stmts_of blocks k = unwrap_or (slice_get blocks k) []

-- the session may be given the block: it is there, and tables are made and dropped by the control session alone
abbrev pub may_launch : Blocks → ℕ → ℕ → Bool
may_launch blocks session k = nat_lt k (length blocks) && ((session == 0) || not (list_any is_definition (stmts_of blocks k)))

-- the number of a wait that nothing blocks any more
abbrev pub free_wait : Database → Session → Option ℕ
free_wait db s = if is_still_blocked db s then None else option_map (λ (w : Waiting). w.number) (wait_of s)

-- nothing blocks the session's wait any more, and of these waits that nothing blocks none has a lesser number
abbrev pub is_first_free : Database → List Session → Session → Bool
is_first_free db sessions s = option_map_or (λ n. list_all (λ other. option_map_or (nat_le n) (free_wait db other) true) sessions) (free_wait db s) false

-- whose turn it is: the least session that can go on without waiting, else the one with the earliest wait that nothing blocks; quiet, where there is neither
abbrev pub turn_in : Machine → Option ℕ
turn_in m = option_or (position_from (λ s. is_some s.place && is_none (wait_of s)) 0 m.sessions) (position_from (is_first_free m.db m.sessions) 0 m.sessions)

abbrev pub is_quiet : Machine → Bool
is_quiet m = is_none (turn_in m)

abbrev pub is_directed : Mode → Bool
is_directed mode = elim mode [ Directed ↦ true | Free ↦ false ]

pub record Next : Type 0 where
  pub machine : Machine
  pub reply : Reply

abbrev pub with_session : Machine → Database → ℕ → Session → Machine
with_session m db k s = record { db = db; sessions = slice_set m.sessions k s; events = m.events + 1 }

-- an event is done: the database, what the session is now, and what came of it; a block is over for a session that isn't in it any more
abbrev pub comes_out : Machine → Database → ℕ → Session → Outcome → Next
comes_out m db session s outcome = record { machine = with_session m db session s; reply = record { outcome = outcome; ended = is_none s.place } }

abbrev pub is_failed : Outcome → Bool
is_failed outcome = elim outcome [ Failed fault ↦ true | other ↦ false ]

-- an implicit transaction is committed with the block's last statement
abbrev pub closed_at_end : Effect → Transaction → Effect
closed_at_end effect (Open t) = if t.explicit then effect else record { db = committed effect.db t.tx; transaction = Closed; statement = None; outcome = effect.outcome }
closed_at_end effect transaction = effect

-- the statement leaves the session there, in the middle of its targets or not
abbrev pub leaves : Machine → ℕ → Effect → Option Progress → Option Place → Next
leaves m session effect statement place = comes_out m effect.db session (record { place = place; transaction = effect.transaction; statement = statement }) effect.outcome

-- a session that waits stays at its statement; after a statement that failed the rest of the block is dropped; else the session goes on, or ends its block
abbrev pub after_stmt : Machine → ℕ → Place → ℕ → Effect → Next
after_stmt m session place count effect =
    if is_some effect.statement then leaves m session effect effect.statement (Some place)
    else if is_failed effect.outcome then leaves m session effect None None
    else if nat_lt (place.next + 1) count then leaves m session effect None (Some (record { block = place.block; next = place.next + 1 }))
    else leaves m session (closed_at_end effect effect.transaction) None None

-- a session does the statement at its place, where its block has one there. What that finds around it: while it runs, the session doesn't wait
abbrev pub step_from : Blocks → Mode → Machine → ℕ → Session → Place → Result Next Refusal
step_from blocks mode m session s place =
    let stmts = stmts_of blocks place.block in
    let around : Surroundings = record { sessions = slice_set m.sessions session (record s { statement = None }); number = m.events } in
    option_map_or (λ stmt.
    if is_directed mode && not (option_map_or (λ k. k == session) (turn_in m) false) then Err NotYourTurn
    else if is_still_blocked m.db s then Err StillBlocked
    else Ok (after_stmt m session place (length stmts) (run_stmt m.db s.transaction s.statement around stmt))) (slice_get stmts place.next) (Err Idle)

-- what the event makes of the machine where this session does it, or why it is refused; a block without statements ends at once, and a session that leaves rolls its open transaction back
abbrev pub next_for : Blocks → Mode → Machine → Session → Event → Result Next Refusal
next_for blocks mode m s (Launch session block) =
    let place : Option Place = elim (stmts_of blocks block) [ [] ↦ None | stmt ∷ stmts ↦ Some (record { block = block; next = 0 }) ] in
    if not (may_launch blocks session block) then Err BlockNotAllowed
    else if is_some s.place then Err Busy
    else if is_directed mode && not (is_quiet m) then Err NotYourTurn
    else Ok (comes_out m m.db session (record { place = place; transaction = s.transaction; statement = None }) Launched)
next_for blocks mode m s (Step session) = option_map_or (step_from blocks mode m session s) s.place (Err Idle)
next_for blocks mode m s (Leave session) =
    let left : Database = elim s.transaction [ Open t ↦ rolled_back m.db t.tx | other ↦ m.db ] in
    if is_directed mode && not (is_quiet m) then Err NotYourTurn else Ok (comes_out m left session at_rest Left)

-- the session that does an event
abbrev pub session_of : Event → ℕ
session_of event = elim event [ Launch session block ↦ session | Step session ↦ session | Leave session ↦ session ]

-- what an event makes of the machine, with the reply to it, or why it is refused
abbrev pub next : Blocks → Mode → Machine → Event → Result Next Refusal
next blocks mode m event = option_map_or (λ s. next_for blocks mode m s event) (slice_get m.sessions (session_of event)) (Err NoSession)

-- the items lead from the one state to the other
abbrev pub Run : Blocks → Mode → Machine → List HistItem → Machine → Type 0
Run blocks mode m [] after = after ≡ m
Run blocks mode m (item ∷ items) after = (mid : Machine) × (next blocks mode m item.event ≡ Ok (record { machine = mid; reply = item.reply })) × Run blocks mode mid items after

-- what a SELECT that begins now would show of the table: none where there is no such table
abbrev pub visible_to : Database → Session → List ℕ → Option (List (List Value))
visible_to db s name = option_map (rows_shown db.content (view_now db.content s.transaction s.statement)) (find_table db (own_of s.transaction) name)

abbrev pub visible_for : Machine → List ℕ → Option Session → Result (Option (List (List Value))) Refusal
visible_for m name None = Err NoSession
visible_for m name (Some s) = Ok (visible_to m.db s name)

-- the rows of the table that the session would see now
abbrev pub visible : Machine → ℕ → List ℕ → Result (Option (List (List Value))) Refusal
visible m session name = visible_for m name (slice_get m.sessions session)
