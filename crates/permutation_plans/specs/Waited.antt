-- A worked permutation with a wait: a DELETE waits for the transaction that has deleted the row, and goes on once that has committed. A marker holds the report of the COMMIT back until
-- the DELETE is reported.
use Rattle.std.specs.Prelude.{◌≡◌, ℕ, Bool, true, false, List, [], ◌∷◌, codes, None}
use Rattle.sql_trees.specs.declared.kind.Kind.TheVariants.{Int as Integer}
use Rattle.sql_trees.specs.Trees.{Number}
use Rattle.sql_trees.specs.Statements.{StmtTree, Begin, Commit, Create, Inserts, Deletes}
use Rattle.session_machine.specs.declared.event.Event.{Event}
use Rattle.session_machine.specs.declared.event.Event.TheVariants.{Launch, Step, Leave}
use Rattle.session_machine.specs.declared.reply.Outcome.{Outcome}
use Rattle.session_machine.specs.declared.reply.Outcome.TheVariants.{Launched, Done, Waits, Left}
use Rattle.session_machine.specs.declared.reply.HistItem.{HistItem}
use Rattle.session_machine.specs.Machine.{Blocks}
use Rattle.spec_parser.specs.declared.tree.Marker.TheVariants.{Step as Named}
use Rattle.spec_parser.specs.Trees.{PartTree, EntryTree, SpecTree}
use Rattle.report_lines.specs.declared.history.Line.TheVariants.{AtOnce, Waiting, Completed}
use Rattle.report_lines.specs.Report.{report}
use Rattle.permutation_plans.specs.Regular.{IsRegular}
use Rattle.permutation_plans.specs.Worked.{named}

abbrev pub part_of : List ℕ → ℕ → PartTree
part_of sql block = record { sql = sql; at = 0; block = block }

-- d e c(e)
abbrev pub waited_entries : List EntryTree
waited_entries =
    record { session = 1; step = 0; markers = [] }
    ∷ record { session = 2; step = 0; markers = [] }
    ∷ record { session = 1; step = 1; markers = Named 2 0 ∷ [] }
    ∷ []

-- setup { CREATE TABLE t (x int); INSERT INTO t VALUES (1) } session a step d { BEGIN; DELETE FROM t } step c { COMMIT } session b step e { DELETE FROM t } permutation d e c(e)
abbrev pub waited_spec : SpecTree
waited_spec = record {
  setups = part_of (codes "CREATE TABLE t (x int); INSERT INTO t VALUES (1)") 0 ∷ [];
  teardown = None;
  sessions =
      record {
        name = named 97;
        setup = None;
        steps = record { name = named 100; part = part_of (codes "BEGIN; DELETE FROM t") 1 } ∷ record { name = named 99; part = part_of (codes "COMMIT") 2 } ∷ [];
        teardown = None;
      }
      ∷ record { name = named 98; setup = None; steps = record { name = named 101; part = part_of (codes "DELETE FROM t") 3 } ∷ []; teardown = None }
      ∷ [];
  perms = waited_entries ∷ [];
}

abbrev pub t : List ℕ
t = 116 ∷ []

abbrev pub x : List ℕ
x = 120 ∷ []

abbrev pub delete_from_t : StmtTree
delete_from_t = Deletes (record { table = t; filter = None; returning = None })

abbrev pub waited_blocks : Blocks
waited_blocks =
    (Create (record { name = t; columns = record { name = x; kind = Integer; not_null = false } ∷ []; keys = [] })
    ∷ Inserts (record { table = t; columns = None; rows = (Number false 1 ∷ []) ∷ []; do_nothing = false; returning = None }) ∷ [])
    ∷ (Begin None ∷ delete_from_t ∷ [])
    ∷ (Commit ∷ [])
    ∷ (delete_from_t ∷ [])
    ∷ []

abbrev pub item : Event → Outcome → Bool → HistItem
item event outcome ended = record { event = event; reply = record { outcome = outcome; ended = ended } }

abbrev pub waited_items : List HistItem
waited_items =
    item (Launch 0 0) Launched false
    ∷ item (Step 0) Done false
    ∷ item (Step 0) Done true
    ∷ item (Launch 1 1) Launched false
    ∷ item (Step 1) Done false
    ∷ item (Step 1) Done true
    ∷ item (Launch 2 3) Launched false
    ∷ item (Step 2) Waits false
    ∷ item (Launch 1 2) Launched false
    ∷ item (Step 1) Done true
    ∷ item (Step 2) Done true
    ∷ item (Leave 1) Left true
    ∷ item (Leave 2) Left true
    ∷ []

-- that history is regular. Of the entries, numbered from 0, it is said: d at once, when 6 items are there; e waits, and so does c; then e is completed, and behind it c, when 11 are there
pub record WaitedHistory : Type 0 where
  pub regular : IsRegular waited_spec waited_blocks waited_entries waited_items
  pub lines : (report (record { entries = waited_entries; items = waited_items; setups = 1 }) 3).lines ≡ AtOnce 0 6 ∷ Waiting 1 ∷ Waiting 2 ∷ Completed 1 11 ∷ Completed 2 11 ∷ []
