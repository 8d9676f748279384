use Rattle.std.proofs.Common.{◌+◌, ◌∙◌, ℕ, length, map, ap}
use Rattle.std.specs.Prelude.{string_bytes}
use Rattle.std.proofs.lemmas.List.{length_push}
use Rattle.sql_blocks.specs.Blocks.{blocks_of}
use Rattle.spec_parser.specs.Trees.{spec_view}
use Rattle.outcomes.proofs.Verdicts.{next_judged}
use Rattle.outcomes.proofs.counting.judge_all.Goals as goal

pub loop-group-preserved : goal.loop-group-preserved
loop-group-preserved c = record {
  judged = next_judged (spec_view c.args.spec.now) (blocks_of c.args.blocks.now) (map string_bytes c.args.names.now) c.args.groups.now c.loop-group.group-index c.loop-group.all.items
      c.push.new.self.items c.group-item.result c.in_ok-judge.field-0 c.loop-group-test.true c.group-item.is c.loop-group.invariant.judged c.in_ok-judge.ensures c.in_ok-push.ensures.items;
  long = ap length c.in_ok-push.ensures.items ∙ length_push c.loop-group.all.items c.in_ok-judge.field-0 ∙ ap (λ (n : ℕ). n + 1) c.loop-group.invariant.long;
}
