use Rattle.std.proofs.Common.{◌≡◌, drop, map}
use Rattle.sql_trees.specs.Statements.{exprs_of, insert_of}
use Rattle.session_machine.specs.Inner.Statements.{insert_one, put_insert, walked}
use Rattle.session_statements.specs.Inner.Keeping.{IsKept}
use Rattle.session_statements.proofs.insert.insert_rows.Given as goal

abbrev pub invariant-loop-at : goal.invariant-loop-at
invariant-loop-at g l = record {
  rest : walked (insert_one l.work (put_insert (insert_of l.stmt)) l.to) l.db l.at l.rows.items (drop l.at (map exprs_of l.stmt.rows.items))
      ≡ walked (insert_one l.work (put_insert (insert_of l.stmt)) l.to) l.fn.db l.place l.fn.rows.items (drop l.place (map exprs_of l.stmt.rows.items));
  kept : IsKept l.fn.db l.db;
}
