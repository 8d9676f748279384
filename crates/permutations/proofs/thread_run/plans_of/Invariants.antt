use Rattle.std.proofs.Common.{◌≡◌, [], length, map, take}
use Rattle.std.specs.List.{All}
use Rattle.row_versions.specs.Log.{empty_content}
use Rattle.spec_parser.specs.Trees.{spec_view}
use Rattle.spec_files.specs.Plans.{IsFollowing}
use Rattle.permutations.specs.Inner.Runs.{ArePlans}
use Rattle.permutations.proofs.thread_run.plans_of.Given as goal

abbrev pub invariant-loop-entries : goal.invariant-loop-entries
invariant-loop-entries l = record {
  count : length l.runs.items ≡ l.entries-index;
  plans : ArePlans (spec_view l.spec) (take l.entries-index l.taken) (map (λ run. run.driver) l.runs.items);
  empty : All (λ run. run.store ≡ empty_content) l.runs.items;
  follows : All (λ run. IsFollowing run.driver []) l.runs.items;
}
