use Rattle.std.specs.Prelude.{◌+◌, ◌≤◌, length, vec_len, vec_capacity}
use Rattle.sql_blocks.specs.Blocks.{blocks_of}
use Rattle.spec_parser.specs.Trees.{spec_view}
use Rattle.spec_files.specs.Drafts.{IsDraft}
use Rattle.permutations.specs.Inner.Runs.{AreReports}
use Rattle.permutations.proofs.Drafting.{Written}
use Rattle.permutations.proofs.draft.drafts_of.Given as goal

abbrev pub invariant-loop-entries : goal.invariant-loop-entries
invariant-loop-entries g l = record {
  reports : AreReports (λ entries report. IsDraft (spec_view l.spec) (blocks_of l.blocks) (record { entries = entries; text = report.text; notes = report.notes; result = report.result })) l.entries-iterator.rest.items l.reports.rest.items;
  written : Written (IsDraft (spec_view l.spec) (blocks_of l.blocks)) l.fn.taken.items l.entries-iterator.rest.items l.drafts.items;
  room : vec_len l.drafts + length l.entries-iterator.rest.items ≤ vec_capacity l.drafts;
}
