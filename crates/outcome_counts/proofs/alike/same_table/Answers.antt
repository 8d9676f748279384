use Rattle.std.specs.Prelude.{IsTrue}
use Rattle.outcome_counts.specs.Rows.{SameRows}
use Rattle.outcome_counts.proofs.Pairs.{by_equals}
use Rattle.outcome_counts.proofs.alike.same_table.Goals as goal

pub returns-in-Some-Some : goal.returns-in-Some-Some
returns-in-Some-Some c =
    rw (c.in-Some-Some.is-0, c.in-Some-Some.is-1)
    (by_equals SameRows c.in-Some-Some.x.items c.in-Some-Some.y.items _ _ (IsTrue c.same_rows.result) c.as_slice.ensures.value c.as_slice-in-Some-Some.ensures.value c.same_rows.ensures)
