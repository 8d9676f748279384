use Rattle.std.proofs.Common.{rules, arith}
use Rattle.std.specs.Global.{Vec}
use Rattle.sql_blocks.specs.Blocks.{blocks_of}
use Rattle.session_machine.specs.Machine.{Blocks}
use Rattle.spec_parser.specs.declared.tree.Entry.{Entry}
use Rattle.spec_parser.specs.Trees.{SpecTree, spec_view}
use Rattle.spec_files.specs.Drafts.{IsDraft}
use Rattle.permutations.specs.declared.report.Report.{Report}
use Rattle.permutations.proofs.Running.{reported}
use Rattle.permutations.proofs.report.reports_placed.Goals as goal

abbrev is_report : SpecTree → Blocks → Vec Entry → Report → Type 0
is_report spec blocks entries report = IsDraft spec blocks (record { entries = entries; text = report.text; notes = report.notes; result = report.result })

pub returns-in-Ok : goal.returns-in-Ok
returns-in-Ok g c =
    reported (is_report (spec_view c.args.spec.now) (blocks_of c.args.blocks.now)) c.args.taken.now c.in-Ok.reports.items (search (rules, arith)) c.in-Ok.ensures.kept
