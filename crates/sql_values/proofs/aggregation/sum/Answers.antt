use Rattle.std.proofs.Common.{arith}
use Rattle.std.proofs.lemmas.Int.{ints}
use mir.Syntax.{w128}
use mir.Val.{to_z, of_z}
use Rattle.sql_values.proofs.Gathered.{sum_step}
use Rattle.sql_values.proofs.aggregation.sum.Goals as goal

pub loop-value-preserved : goal.loop-value-preserved
loop-value-preserved c =
    record {
      so_far = sum_step c.args.values.now c.loop-value.value-index (to_z w128 c.loop-value.total-bits) c.in-Int.n (to_z w128 (of_z w128 c.added-total.result)) c.value-item.result (omega arith) c.value-item.is c.in-Int.is (omega (arith, ints)) c.loop-value.invariant.so_far;
      low = omega (arith, ints);
      high = omega (arith, ints);
    }
