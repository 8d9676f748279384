use Rattle.std.proofs.Common.{◌↔◌, [], map, take, drop}
use Rattle.spec_parser.specs.Trees.{entry_view}
use Rattle.report_lines.specs.Code.Progress.{KeepsFront}
use Rattle.permutation_plans.specs.Launches.{run_of, due_after}
use Rattle.permutation_plans.specs.Code.Fits.{FitsAfter}
use Rattle.permutation_plans.proofs.fit.fits.Given as goal

abbrev pub invariant-loop-place : goal.invariant-loop-place
invariant-loop-place l = record {
  fit : FitsAfter (due_after l.launches (map entry_view l.entries)) (take l.place l.items) (drop l.place l.items)
      ↔ FitsAfter (due_after l.launches (map entry_view l.entries)) [] l.items;
  follows : KeepsFront (run_of l.launches (map entry_view l.entries) (take l.place l.items)) l.progress;
}
