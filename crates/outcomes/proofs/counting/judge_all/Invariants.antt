use Rattle.std.proofs.Common.{◌≡◌, length, map, take}
use Rattle.std.specs.Prelude.{string_bytes}
use Rattle.sql_blocks.specs.Blocks.{blocks_of}
use Rattle.spec_parser.specs.Trees.{spec_view}
use Rattle.outcomes.specs.Judging.{AllJudged}
use Rattle.outcomes.proofs.counting.judge_all.Given as goal

abbrev pub invariant-loop-group : goal.invariant-loop-group
invariant-loop-group l = record {
  judged : AllJudged (spec_view l.spec) (blocks_of l.blocks) (map string_bytes l.names) (take l.group-index l.groups) l.all.items;
  long : length l.all.items ≡ l.group-index;
}
