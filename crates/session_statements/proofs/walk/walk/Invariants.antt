use Rattle.std.proofs.Common.{◌≡◌, drop}
use Rattle.session_machine.specs.Inner.Statements.{walked}
use Rattle.session_statements.specs.Inner.Acting.{visit_at}
use Rattle.session_statements.specs.Inner.Keeping.{IsKept}
use Rattle.session_statements.proofs.walk.walk.Given as goal

abbrev pub invariant-loop-at : goal.invariant-loop-at
invariant-loop-at g l = record {
  rest : walked (visit_at l.work l.act) l.db l.at l.rows.items (drop l.at l.targets)
      ≡ walked (visit_at l.work l.act) l.fn.db l.place l.fn.rows.items (drop l.place l.targets);
  kept : IsKept l.fn.db l.db;
}
