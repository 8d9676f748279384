use Rattle.std.proofs.Common.{◌≡◌, ◌++◌, ◌∷◌, [], length, rules, arith}
use Rattle.std.specs.Global.{Vec}
use Rattle.sql_blocks.specs.Blocks.{blocks_of}
use Rattle.session_machine.specs.Machine.{Blocks}
use Rattle.spec_parser.specs.declared.tree.Entry.{Entry}
use Rattle.spec_parser.specs.Trees.{SpecTree, spec_view}
use Rattle.spec_files.specs.Drafts.{IsDraft}
use Rattle.permutations.specs.declared.report.Report.{Report}
use Rattle.permutations.proofs.Drafting.{written_all, written_more, written_none}
use Rattle.permutations.proofs.Running.{next_report, reports_of}
use Rattle.permutations.proofs.draft.drafts_of.Goals as goal

abbrev is_report : SpecTree → Blocks → Vec Entry → Report → Type 0
is_report spec blocks entries report = IsDraft spec blocks (record { entries = entries; text = report.text; notes = report.notes; result = report.result })

pub loop-entries-init : goal.loop-entries-init
loop-entries-init g c =
    let spec = spec_view c.args.spec.now in
    let blocks = blocks_of c.args.blocks.now in
    let left : c.into_iter-entries-iterator.result.rest.items ≡ c.args.taken.items = search rules in
    let lent : c.into_iter-entries-iterator.result.rest.items ≡ c.deref.result.now = search rules in
    let kept : c.into_iter-reports.result.rest.items ≡ c.reports_of.result.items = search rules in
    record {
      reports = reports_of (is_report spec blocks) c.deref.result.now c.into_iter-entries-iterator.result.rest.items c.reports_of.result.items c.into_iter-reports.result.rest.items lent kept c.reports_of.ensures;
      written = written_none (IsDraft spec blocks) c.args.taken.items c.into_iter-entries-iterator.result.rest.items c.args.drafts.items left c.requires.room.empty;
      room = search (rules, arith);
    }

pub loop-entries-preserved : goal.loop-entries-preserved
loop-entries-preserved g c =
    let spec = spec_view c.args.spec.now in
    let blocks = blocks_of c.args.blocks.now in
    let first = c.in-Some.ensures.steps.0 in
    let left = c.loop-entries.entries-iterator.rest.items in
    let rest = c.next.new.self.rest.items in
    let now = c.push.new.self.items in
    let pushed : now ≡ c.loop-entries.drafts.items ++ c.draft_of-draft.result ∷ [] = search rules in
    record {
      reports = (next_report (is_report spec blocks) left rest c.in-Some.entries c.next-report.result c.loop-entries.reports.rest.items c.next-report.new.self.rest.items _ _ c.loop-entries.invariant.reports first c.next-report.ensures.cases (λ none. search (rules, arith))).1;
      written = written_more (IsDraft spec blocks) c.args.taken.items left rest c.loop-entries.drafts.items now c.in-Some.entries c.draft_of-draft.result c.loop-entries.invariant.written first pushed c.draft_of-draft.ensures.draft c.draft_of-draft.ensures.entries;
      room = search (rules, arith);
    }

pub draft_of-draft-requires : goal.draft_of-draft-requires
draft_of-draft-requires g c =
    record {
      report = (next_report (is_report (spec_view c.args.spec.now) (blocks_of c.args.blocks.now)) c.loop-entries.entries-iterator.rest.items c.next.new.self.rest.items c.in-Some.entries c.next-report.result c.loop-entries.reports.rest.items c.next-report.new.self.rest.items _ _
          c.loop-entries.invariant.reports c.in-Some.ensures.steps.0 c.next-report.ensures.cases (λ none. search (rules, arith))).0;
    }

pub returns : goal.returns
returns g c =
    let none : length c.loop-entries.entries-iterator.rest.items ≡ 0 = search (rules, arith) in
    written_all (IsDraft (spec_view c.args.spec.now) (blocks_of c.args.blocks.now)) c.args.taken.items c.loop-entries.entries-iterator.rest.items c.loop-entries.drafts c.loop-entries.invariant.written none
