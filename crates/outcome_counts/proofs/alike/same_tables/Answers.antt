use Rattle.outcome_counts.specs.Outcomes.{SameTable}
use Rattle.outcome_counts.proofs.Pairs.{pair_more}
use Rattle.outcome_counts.proofs.alike.same_tables.Goals as goal

pub loop-i-preserved : goal.loop-i-preserved
loop-i-preserved c = record {
  long = c.loop-i.invariant.long;
  each = pair_more SameTable c.args.a.now c.args.b.now c.loop-i.i c.index-a-i.result c.index-b-i.result c.loop-i-test.true c.loop-i.invariant.long c.index-a-i.is c.index-b-i.is
      (c.same_table.ensures.0 c.if-not-same_table.false) c.loop-i.invariant.each;
}
