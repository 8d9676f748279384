-- Events piece by piece, as the code does them.
use Rattle.std.specs.Prelude.{option_map, ℕ, ◌+◌, ◌==◌, ◌&&◌, is_none, is_some, slice_set, nat_lt, Bool, false, not, List, [], ◌∷◌, Option, Ok, Some, None, Result, Err, if◌then◌else◌}
use Rattle.std.specs.Option.{option_map_or}
use Rattle.sql_trees.specs.Statements.{StmtTree}
use Rattle.row_versions.specs.Members.{is_none_of}
use Rattle.row_locks.specs.Waiting.{Waiting as BlockedOne}
use Rattle.session_machine.specs.declared.session.Transaction.TheVariants.{Open}
use Rattle.session_machine.specs.Transactions.{rolled_back}
use Rattle.session_machine.specs.declared.session.Place.{Place}
use Rattle.session_machine.specs.declared.session.Transaction.{Transaction}
use Rattle.session_machine.specs.declared.session.Waiting.{Waiting}
use Rattle.session_machine.specs.declared.session.Session.{Session}
use Rattle.session_machine.specs.declared.event.Event.TheVariants.{Launch, Step, Leave}
use Rattle.session_machine.specs.declared.event.Mode.{Mode}
use Rattle.session_machine.specs.declared.reply.Outcome.TheVariants.{Launched}
use Rattle.session_machine.specs.declared.fault.Refusal.{Refusal}
use Rattle.session_machine.specs.declared.fault.Refusal.TheVariants.{Idle, NoSession, NotYourTurn, StillBlocked}
use Rattle.session_machine.specs.Tables.{Database}
use Rattle.session_machine.specs.Waits.{blockers, wait_of, is_still_blocked}
use Rattle.session_machine.specs.Statements.{Effect, Surroundings}
use Rattle.session_machine.specs.Running.{run_stmt}
use Rattle.session_machine.specs.Machine.{Machine, Blocks, Next, closed_at_end, comes_out, is_failed, leaves, next_for, step_from, after_stmt, is_directed, turn_in}

abbrev pub waiting : Database → Transaction → Option Waiting → Option BlockedOne
waiting db transaction wait = elim transaction [ Open t ↦ option_map (λ (w : Waiting). record { tx = t.tx; blockers = blockers db w.request t.tx }) wait | other ↦ None ]

-- the session is in its block
abbrev pub is_busy : Session → Bool
is_busy s = is_some s.place

-- the session is in its block and doesn't wait
abbrev pub is_ready : Session → Bool
is_ready s = is_busy s && is_none (wait_of s)

abbrev pub is_turn : Option ℕ → ℕ → Bool
is_turn turn session = option_map_or (λ k. k == session) turn false

-- what a statement of the session finds around it: while it runs, the session doesn't wait
abbrev pub around : Machine → ℕ → Session → Surroundings
around m session s = record { sessions = slice_set m.sessions session (record s { statement = None }); number = m.events }

-- a session that leaves rolls its open transaction back
abbrev pub left_behind : Database → Transaction → Database
left_behind db (Open t) = rolled_back db t.tx
left_behind db transaction = db

-- where a session stands that is given these statements: a block without statements ends at once
abbrev pub first_place : ℕ → List StmtTree → Option Place
first_place block [] = None
first_place block (stmt ∷ stmts) = Some (record { block = block; next = 0 })

-- a session does the statement at its place, of so many in its block.
abbrev pub step_with : Mode → Machine → ℕ → Session → Place → ℕ → StmtTree → Result Next Refusal
step_with mode m session s place count stmt =
    if is_directed mode && not (is_turn (turn_in m) session) then Err NotYourTurn
    else if is_still_blocked m.db s then Err StillBlocked
    else Ok (after_stmt m session place count (run_stmt m.db s.transaction s.statement (around m session s) stmt))

-- what the session waits for is still held against it
abbrev pub is_stopped : Database → Transaction → Option Waiting → Bool
is_stopped db transaction wait = option_map_or (λ (w : BlockedOne). not (is_none_of w.blockers)) (waiting db transaction wait) false

-- after a statement that is over, and in the middle of one
abbrev pub finished : Machine → ℕ → Effect → Option Place → Next
finished m session effect place = leaves m session effect None place

abbrev pub waits_there : Machine → ℕ → Place → Effect → Next
waits_there m session place effect = leaves m session effect effect.statement (Some place)

abbrev pub after_block_end : Machine → ℕ → Place → ℕ → Effect → Next
after_block_end m session place count effect =
    if is_failed effect.outcome then finished m session effect None
    else if nat_lt (place.next + 1) count then finished m session effect (Some (record { block = place.block; next = place.next + 1 }))
    else finished m session (closed_at_end effect effect.transaction) None

abbrev pub after_launch : Machine → ℕ → Session → Option Place → Next
after_launch m session s place = comes_out m m.db session (record { place = place; transaction = s.transaction; statement = None }) Launched

-- an event of the session that is found
abbrev pub launch_of : Blocks → Mode → Machine → ℕ → ℕ → Option Session → Result Next Refusal
launch_of blocks mode m session block found = option_map_or (λ s. next_for blocks mode m s (Launch session block)) found (Err NoSession)

abbrev pub step_of : Blocks → Mode → Machine → ℕ → Option Session → Result Next Refusal
step_of blocks mode m session found = option_map_or (λ s. next_for blocks mode m s (Step session)) found (Err NoSession)

abbrev pub leave_of : Mode → Machine → ℕ → Option Session → Result Next Refusal
leave_of mode m session found = option_map_or (λ s. next_for [] mode m s (Leave session)) found (Err NoSession)

-- a step from the place, and with the statement, if there is one
abbrev pub step_from_place : Blocks → Mode → Machine → ℕ → Session → Option Place → Result Next Refusal
step_from_place blocks mode m session s place = option_map_or (step_from blocks mode m session s) place (Err Idle)

abbrev pub step_stmt : Mode → Machine → ℕ → Session → Place → ℕ → Option StmtTree → Result Next Refusal
step_stmt mode m session s place count stmt = option_map_or (step_with mode m session s place count) stmt (Err Idle)
