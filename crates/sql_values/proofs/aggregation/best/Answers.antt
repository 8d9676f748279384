use Rattle.std.proofs.Common.{arith}
use Rattle.sql_values.proofs.Extremes.{best_first, best_step}
use Rattle.sql_values.proofs.aggregation.best.Goals as goal

pub loop-value-init : goal.loop-value-init
loop-value-init c = best_first c.args.greatest c.args.first.now

pub loop-value-preserved : goal.loop-value-preserved
loop-value-preserved c =
    best_step c.args.greatest c.args.first.now c.args.others.now c.loop-value.value-index c.loop-value.best.now c.value-item.result _ (omega arith) c.value-item.is c.better-best.ensures c.loop-value.invariant
