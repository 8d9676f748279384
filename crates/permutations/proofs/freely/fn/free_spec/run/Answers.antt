use Rattle.std.proofs.Common.{ap, subst}
use Rattle.session_machine.specs.Machine.{Blocks}
use Rattle.sql_blocks.specs.Blocks.{blocks_of}
use Rattle.spec_parser.specs.Trees.{spec_view}
use Rattle.spec_files.specs.Runners.{RanFreely}
use Rattle.permutations.proofs.freely.fn.free_spec.run.Goals as goal

pub returns : goal.returns
returns g c =
    subst (λ (bs : Blocks). RanFreely g.W.Sink g.N.Sink (spec_view c.args.file.now.spec) bs c.args.out.now c.run_freely.new.out c.args.notes.now c.run_freely.new.notes c.run_freely.result)
    (ap blocks_of c.deref.ensures.value) c.run_freely.ensures
