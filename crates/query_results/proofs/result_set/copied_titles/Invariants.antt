use Rattle.std.proofs.Common.{◌≡◌, take}
use Rattle.query_results.proofs.result_set.copied_titles.Given as goal

abbrev pub invariant-loop-title : goal.invariant-loop-title
invariant-loop-title l = l.copies.items ≡ take l.title-index l.titles
