-- A worked permutation with a deadlock: two transactions have deleted a row each, and each then deletes the other's; the second of these DELETEs fails, and the first goes on.
use Rattle.std.specs.Prelude.{ℕ, List, [], ◌∷◌, codes, false, true, None}
use Rattle.sql_trees.specs.declared.kind.Kind.TheVariants.{Int as Integer}
use Rattle.sql_trees.specs.Trees.{Number}
use Rattle.sql_trees.specs.Statements.{StmtTree, Begin, Create, Inserts, Deletes}
use Rattle.session_machine.specs.declared.event.Event.TheVariants.{Launch, Step, Leave}
use Rattle.session_machine.specs.declared.fault.StmtFault.TheVariants.{Deadlock}
use Rattle.session_machine.specs.declared.reply.Outcome.TheVariants.{Launched, Done, Waits, Failed, Left}
use Rattle.session_machine.specs.declared.reply.HistItem.{HistItem}
use Rattle.session_machine.specs.Machine.{Blocks}
use Rattle.spec_parser.specs.Trees.{EntryTree, SpecTree}
use Rattle.permutation_plans.specs.Regular.{IsRegular}
use Rattle.permutation_plans.specs.Worked.{named}
use Rattle.permutation_plans.specs.Waited.{part_of, item, t, x, delete_from_t}

-- d e g f
abbrev pub deadlocked_entries : List EntryTree
deadlocked_entries =
    record { session = 1; step = 0; markers = [] }
    ∷ record { session = 2; step = 0; markers = [] }
    ∷ record { session = 1; step = 1; markers = [] }
    ∷ record { session = 2; step = 1; markers = [] }
    ∷ []

-- setup { CREATE TABLE t (x int); INSERT INTO t VALUES (1) } setup { CREATE TABLE u (x int); INSERT INTO u VALUES (1) }
-- session a step d { BEGIN; DELETE FROM t } step g { DELETE FROM u } session b step e { BEGIN; DELETE FROM u } step f { DELETE FROM t } permutation d e g f
abbrev pub deadlocked_spec : SpecTree
deadlocked_spec = record {
  setups = part_of (codes "CREATE TABLE t (x int); INSERT INTO t VALUES (1)") 0 ∷ part_of (codes "CREATE TABLE u (x int); INSERT INTO u VALUES (1)") 1 ∷ [];
  teardown = None;
  sessions =
      record {
        name = named 97;
        setup = None;
        steps = record { name = named 100; part = part_of (codes "BEGIN; DELETE FROM t") 2 } ∷ record { name = named 103; part = part_of (codes "DELETE FROM u") 3 } ∷ [];
        teardown = None;
      }
      ∷ record {
        name = named 98;
        setup = None;
        steps = record { name = named 101; part = part_of (codes "BEGIN; DELETE FROM u") 4 } ∷ record { name = named 102; part = part_of (codes "DELETE FROM t") 5 } ∷ [];
        teardown = None;
      }
      ∷ [];
  perms = deadlocked_entries ∷ [];
}

abbrev pub u : List ℕ
u = 117 ∷ []

abbrev pub delete_from_u : StmtTree
delete_from_u = Deletes (record { table = u; filter = None; returning = None })

-- CREATE TABLE with one column x, and INSERT of one row into it
abbrev pub made_with_a_row : List ℕ → List StmtTree
made_with_a_row name =
    Create (record { name = name; columns = record { name = x; kind = Integer; not_null = false } ∷ []; keys = [] })
    ∷ Inserts (record { table = name; columns = None; rows = (Number false 1 ∷ []) ∷ []; do_nothing = false; returning = None })
    ∷ []

abbrev pub deadlocked_blocks : Blocks
deadlocked_blocks =
    made_with_a_row t
    ∷ made_with_a_row u
    ∷ (Begin None ∷ delete_from_t ∷ [])
    ∷ (delete_from_u ∷ [])
    ∷ (Begin None ∷ delete_from_u ∷ [])
    ∷ (delete_from_t ∷ [])
    ∷ []

abbrev pub deadlocked_items : List HistItem
deadlocked_items =
    item (Launch 0 0) Launched false
    ∷ item (Step 0) Done false
    ∷ item (Step 0) Done true
    ∷ item (Launch 0 1) Launched false
    ∷ item (Step 0) Done false
    ∷ item (Step 0) Done true
    ∷ item (Launch 1 2) Launched false
    ∷ item (Step 1) Done false
    ∷ item (Step 1) Done true
    ∷ item (Launch 2 4) Launched false
    ∷ item (Step 2) Done false
    ∷ item (Step 2) Done true
    ∷ item (Launch 1 3) Launched false
    ∷ item (Step 1) Waits false
    ∷ item (Launch 2 5) Launched false
    ∷ item (Step 2) (Failed Deadlock) true
    ∷ item (Step 1) Done true
    ∷ item (Leave 1) Left true
    ∷ item (Leave 2) Left true
    ∷ []

-- that history is regular
abbrev pub DeadlockedHistory : Type 0
DeadlockedHistory = IsRegular deadlocked_spec deadlocked_blocks deadlocked_entries deadlocked_items
