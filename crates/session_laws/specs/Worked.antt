-- A worked history: session 1 is in Repeatable Read when session 2 writes, and sees its row once it has left;
-- then session 2 writes in a transaction that stays open, and commits it.
use Rattle.std.specs.Prelude.{ℕ, Bool, true, false, List, [], ◌∷◌, take, ◌≡◌, Some, None, Ok, Err, pos}
use Rattle.sql_trees.specs.declared.kind.Kind.TheVariants.{Int as Integer}
use Rattle.sql_trees.specs.declared.stmt.Level.TheVariants.{RepeatableRead}
use Rattle.sql_trees.specs.Trees.{Number}
use Rattle.sql_trees.specs.Statements.{StmtTree, Begin, Commit, Create, Inserts, Selects, All}
use Rattle.sql_values.specs.declared.value.Value.{Value}
use Rattle.sql_values.specs.declared.value.Value.TheVariants.{Int}
use Rattle.row_versions.specs.declared.write.Write.{Write}
use Rattle.row_versions.specs.Log.{has_committed}
use Rattle.query_results.specs.declared.title.Title.TheVariants.{Column as Named}
use Rattle.session_machine.specs.declared.event.Event.{Event}
use Rattle.session_machine.specs.declared.event.Event.TheVariants.{Launch, Step, Leave}
use Rattle.session_machine.specs.declared.event.Mode.TheVariants.{Directed}
use Rattle.session_machine.specs.declared.reply.Outcome.{Outcome}
use Rattle.session_machine.specs.declared.reply.Outcome.TheVariants.{Launched, Done, Rows, Left}
use Rattle.session_machine.specs.declared.reply.HistItem.{HistItem}
use Rattle.session_machine.specs.declared.fault.Refusal.TheVariants.{Busy, NotYourTurn, Idle, NoSession, BlockNotAllowed}
use Rattle.session_machine.specs.Machine.{Machine, Blocks, next, opening, visible, Run}
use Rattle.session_machine.specs.Engine.{IsLegal}
use Rattle.session_laws.specs.Laws.{IsLastOf}

abbrev pub t : List ℕ
t = 116 ∷ []

abbrev pub x : List ℕ
x = 120 ∷ []

-- INSERT INTO t VALUES (n)
abbrev insert_into_t : ℕ → StmtTree
insert_into_t n = Inserts (record { table = t; columns = None; rows = (Number false n ∷ []) ∷ []; do_nothing = false; returning = None })

-- SELECT * FROM t
abbrev select_from_t : StmtTree
select_from_t = Selects (record { items = All ∷ []; table = Some t; filter = None; order = []; lock = None })

abbrev pub worked_blocks : Blocks
worked_blocks =
    (Create (record { name = t; columns = record { name = x; kind = Integer; not_null = false } ∷ []; keys = [] }) ∷ insert_into_t 1 ∷ [])
    ∷ (Begin (Some RepeatableRead) ∷ select_from_t ∷ [])
    ∷ (insert_into_t 2 ∷ [])
    ∷ (select_from_t ∷ [])
    ∷ (Begin None ∷ insert_into_t 3 ∷ [])
    ∷ (Commit ∷ [])
    ∷ []

abbrev pub item : Event → Outcome → Bool → HistItem
item event outcome ended = record { event = event; reply = record { outcome = outcome; ended = ended } }

abbrev pub rows_reply : List (List Value) → Outcome
rows_reply rows = Rows (record { titles = Named x ∷ []; rows = rows })

abbrev pub one_value : List Value
one_value = Int (pos 1) ∷ []

abbrev pub two : List Value
two = Int (pos 2) ∷ []

abbrev pub three : List Value
three = Int (pos 3) ∷ []

abbrev pub worked_items : List HistItem
worked_items =
    item (Launch 0 0) Launched false
    ∷ item (Step 0) Done false
    ∷ item (Step 0) Done true
    ∷ item (Launch 1 1) Launched false
    ∷ item (Step 1) Done false
    ∷ item (Step 1) (rows_reply (one_value ∷ [])) true
    ∷ item (Launch 2 2) Launched false
    ∷ item (Step 2) Done true
    ∷ item (Launch 1 3) Launched false
    ∷ item (Step 1) (rows_reply (one_value ∷ [])) true
    ∷ item (Launch 2 3) Launched false
    ∷ item (Step 2) (rows_reply (one_value ∷ two ∷ [])) true
    ∷ item (Leave 1) Left true
    ∷ item (Launch 1 3) Launched false
    ∷ item (Step 1) (rows_reply (one_value ∷ two ∷ [])) true
    ∷ item (Launch 2 4) Launched false
    ∷ item (Step 2) Done false
    ∷ item (Step 2) Done true
    ∷ item (Launch 2 5) Launched false
    ∷ item (Step 2) Done true
    ∷ []

-- the history is legal
abbrev pub WorkedHistory : Type 0
WorkedHistory = IsLegal worked_blocks 2 Directed worked_items

-- once session 1 has its next block, it is its turn alone
pub record Waited (m : Machine) : Type 0 where
  pub busy : next worked_blocks Directed m (Launch 1 3) ≡ Err Busy
  pub early : next worked_blocks Directed m (Launch 2 3) ≡ Err NotYourTurn
  pub idle : next worked_blocks Directed m (Step 2) ≡ Err Idle
  pub leaves_early : next worked_blocks Directed m (Leave 1) ≡ Err NotYourTurn

-- before session 1 leaves it sees its own snapshot, and session 2 what is committed
pub record Apart (m : Machine) : Type 0 where
  pub no_session : next worked_blocks Directed m (Launch 3 3) ≡ Err NoSession
  pub definition : next worked_blocks Directed m (Launch 1 0) ≡ Err BlockNotAllowed
  pub no_block : next worked_blocks Directed m (Launch 1 9) ≡ Err BlockNotAllowed
  pub snapshot : visible m 1 t ≡ Ok (Some (one_value ∷ []))
  pub committed : visible m 2 t ≡ Ok (Some (one_value ∷ two ∷ []))
  pub no_table : visible m 2 (117 ∷ []) ≡ Ok None

-- the write of session 2's transaction, which nobody follows
abbrev pub third : Write
third = record { tx = record { 0 = 5 }; command = 0; table = record { 0 = 0 }; row = record { 0 = 2 }; values = Some three }

-- while the transaction is open its own session sees the row, and no other one does
pub record Kept (m : Machine) : Type 0 where
  pub last : IsLastOf m.db.content 2 third three
  pub not_yet : has_committed m.db.content third.tx ≡ false
  pub its_own : visible m 2 t ≡ Ok (Some (one_value ∷ two ∷ three ∷ []))
  pub others : visible m 1 t ≡ Ok (Some (one_value ∷ two ∷ []))

-- after the commit each session sees it
pub record Given (m : Machine) : Type 0 where
  pub last : IsLastOf m.db.content 2 third three
  pub committed : has_committed m.db.content third.tx ≡ true
  pub its_own : visible m 2 t ≡ Ok (Some (one_value ∷ two ∷ three ∷ []))
  pub others : visible m 1 t ≡ Ok (Some (one_value ∷ two ∷ three ∷ []))

abbrev pub led_to : ℕ → Machine → Type 0
led_to count m = Run worked_blocks Directed (opening 2) (take count worked_items) m

-- what is refused and seen on the way
pub record WorkedStates : Type 0 where
  pub waited : (m : Machine) → led_to 9 m → Waited m
  pub apart : (m : Machine) → led_to 12 m → Apart m
  pub left : (m : Machine) → led_to 13 m → visible m 1 t ≡ Ok (Some (one_value ∷ two ∷ []))
  pub kept : (m : Machine) → led_to 18 m → Kept m
  pub given : (m : Machine) → led_to 20 m → Given m
