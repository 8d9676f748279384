-- What an event may lead to, so that what is so of each is so of the next state.
use Rattle.std.proofs.Common.{◌≡◌, ℕ, ◌+◌, Bool, true, false, refl, subst, length}
use Rattle.std.specs.Prelude.{Option, Some, None, is_some, slice_get, nat_lt, Ok, Err, not, ◌&&◌, if◌then◌else◌}
use Rattle.sql_trees.specs.Statements.{StmtTree}
use Rattle.session_machine.specs.declared.session.Place.{Place}
use Rattle.session_machine.specs.declared.session.Session.{Session}
use Rattle.session_machine.specs.declared.session.Progress.{Progress}
use Rattle.session_machine.specs.declared.event.Event.{Event}
use Rattle.session_machine.specs.declared.event.Event.TheVariants.{Launch, Step, Leave}
use Rattle.session_machine.specs.declared.event.Mode.{Mode}
use Rattle.session_machine.specs.declared.fault.Refusal.TheVariants.{Busy, NotYourTurn, BlockNotAllowed}
use Rattle.session_machine.specs.Statements.{Effect}
use Rattle.session_machine.specs.Machine.{Machine, Blocks, Next, next, stmts_of, is_failed, may_launch, is_directed, is_quiet, after_stmt, closed_at_end, session_of}
use Rattle.session_machine.specs.Inner.Steps.{after_launch, launch_of, step_of, step_from_place, step_stmt, leave_of, after_block_end, waits_there, finished, first_place}
use Rattle.session_laws.proofs.Sound.{if_ok, ok_launch, ok_step, ok_leave, ran, left_by}

-- a session that is launched is in no block
idle_launch : (blocks : Blocks) (mode : Mode) (m : Machine) (i block : ℕ) (s : Session) (n : Next) → launch_of blocks mode m i block (Some s) ≡ Ok n → s.place ≡ None
idle_launch blocks mode m i block s n h = at_place s.place (if_ok (not (may_launch blocks i block)) BlockNotAllowed _ n h) where
  at_place : (o : Option Place) → (if is_some o then Err Busy else if is_directed mode && not (is_quiet m) then Err NotYourTurn else Ok (after_launch m i s (first_place block (stmts_of blocks block)))) ≡ Ok n
      → o ≡ None
  at_place (Some place) e = cc
  at_place None e = refl

-- the session stands at this place, and at this statement
abbrev pub due_at : Blocks → Session → Place → StmtTree → Type 0
due_at blocks s place stmt = (s.place ≡ Some place) × (slice_get (stmts_of blocks place.block) place.next ≡ Some stmt)

-- a session is launched, does its statement, or leaves
pub event_cases : (blocks : Blocks) (mode : Mode) (m : Machine) (event : Event) (n : Next) (G : Next → Type 0) → next blocks mode m event ≡ Ok n
    → ((s : Session) (place : Option Place) → slice_get m.sessions (session_of event) ≡ Some s → s.place ≡ None → G (after_launch m (session_of event) s place))
    → ((s : Session) (place : Place) (count : ℕ) (stmt : StmtTree) → slice_get m.sessions (session_of event) ≡ Some s → due_at blocks s place stmt
    → G (after_stmt m (session_of event) place count (ran m (session_of event) s stmt)))
    → ((s : Session) → slice_get m.sessions (session_of event) ≡ Some s → G (left_by m (session_of event) s)) → G n
event_cases blocks mode m (Launch i block) n G h launches steps leaves = at_launch (slice_get m.sessions i) refl h where
  at_launch : (o : Option Session) → slice_get m.sessions i ≡ o → launch_of blocks mode m i block o ≡ Ok n → G n
  at_launch None e h = cc
  at_launch (Some s) e h = subst G (ok_launch blocks mode m i block s n h) (launches s (first_place block (stmts_of blocks block)) e (idle_launch blocks mode m i block s n h))
event_cases blocks mode m (Step i) n G h launches steps leaves = at_step (slice_get m.sessions i) refl h where
  at_stmt : (s : Session) (place : Place) (count : ℕ) (o : Option StmtTree) → slice_get m.sessions i ≡ Some s → s.place ≡ Some place
      → slice_get (stmts_of blocks place.block) place.next ≡ o → step_stmt mode m i s place count o ≡ Ok n → G n
  at_stmt s place count None e f g h = cc
  at_stmt s place count (Some stmt) e f g h = subst G (ok_step mode m i s place count stmt n h) (steps s place count stmt e (f, g))

  at_place : (s : Session) (o : Option Place) → slice_get m.sessions i ≡ Some s → s.place ≡ o → step_from_place blocks mode m i s o ≡ Ok n → G n
  at_place s None e f h = cc
  at_place s (Some place) e f h = at_stmt s place (length (stmts_of blocks place.block)) (slice_get (stmts_of blocks place.block) place.next) e f refl h

  at_step : (o : Option Session) → slice_get m.sessions i ≡ o → step_of blocks mode m i o ≡ Ok n → G n
  at_step None e h = cc
  at_step (Some s) e h = at_place s s.place e refl h
event_cases blocks mode m (Leave i) n G h launches steps leaves = at_leave (slice_get m.sessions i) refl h where
  at_leave : (o : Option Session) → slice_get m.sessions i ≡ o → leave_of mode m i o ≡ Ok n → G n
  at_leave None e h = cc
  at_leave (Some s) e h = subst G (ok_leave mode m i s n h) (leaves s e)

-- after its statement the session waits there, goes on or drops its block's rest, or ends its block
pub after_cases : (m : Machine) (i : ℕ) (place : Place) (count : ℕ) (d : Effect) (G : Next → Type 0) → G (waits_there m i place d) → ((place : Option Place) → G (finished m i d place))
    → G (finished m i (closed_at_end d d.transaction) None) → G (after_stmt m i place count d)
after_cases m i place count d G waits ends closes =
    either (is_some d.statement) (waits_there m i place d) (after_block_end m i place count d) waits
    (either (is_failed d.outcome) (finished m i d None) _ (ends None)
    (either (nat_lt (place.next + 1) count) (finished m i d (Some (record { block = place.block; next = place.next + 1 }))) (finished m i (closed_at_end d d.transaction) None)
    (ends (Some (record { block = place.block; next = place.next + 1 }))) closes)) where
      either : (b : Bool) (x y : Next) → G x → G y → G (if b then x else y)
      either true x y h k = h
      either false x y h k = k

-- the same, where it is known that a session that doesn't wait there is in no statement
pub after_over : (m : Machine) (i : ℕ) (place : Place) (count : ℕ) (d : Effect) (G : Next → Type 0) → G (waits_there m i place d) → (d.statement ≡ None → (place : Option Place) → G (finished m i d place))
    → (d.statement ≡ None → G (finished m i (closed_at_end d d.transaction) None)) → G (after_stmt m i place count d)
after_over m i place count d G waits ends closes = at_statement d.statement refl where
  either : (b : Bool) (x y : Next) → G x → G y → G (if b then x else y)
  either true x y h k = h
  either false x y h k = k

  at_statement : (o : Option Progress) → d.statement ≡ o → G (if is_some o then waits_there m i place d else after_block_end m i place count d)
  at_statement (Some p) e = waits
  at_statement None e =
      either (is_failed d.outcome) (finished m i d None) _ (ends e None)
      (either (nat_lt (place.next + 1) count) (finished m i d (Some (record { block = place.block; next = place.next + 1 }))) (finished m i (closed_at_end d d.transaction) None)
      (ends e (Some (record { block = place.block; next = place.next + 1 }))) (closes e))
