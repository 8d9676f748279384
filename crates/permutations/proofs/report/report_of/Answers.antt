use Rattle.std.proofs.Common.{rules}
use Rattle.sql_blocks.specs.Blocks.{blocks_of}
use Rattle.spec_parser.specs.Trees.{spec_view}
use Rattle.permutations.proofs.Drafting.{drafted}
use Rattle.permutations.proofs.report.report_of.Goals as goal

pub returns-clause-draft : goal.returns-clause-draft
returns-clause-draft g c =
    drafted (spec_view c.args.spec.now) (blocks_of c.args.blocks.now) c.args.entries.now c.deref.result.now c.tell_permutation-told.new.out c.tell_permutation-told.new.notes _ _
    c.tell_permutation-told.result c.in_memory.result (search rules) (search rules) (search rules) c.tell_permutation-told.ensures.told c.tell_permutation-told.ensures.unbroken
    c.tell_permutation-told.ensures.kinds c.tell_permutation-told.ensures.sure c.in_memory.ensures.one_of c.in_memory.ensures.unwritten
