use Rattle.spec_parser.specs.Trees.{spec_view}
use Rattle.sql_blocks.specs.Blocks.{blocks_of}
use Rattle.permutations.proofs.FreeRunning.{run_told}
use Rattle.permutations.proofs.freely.run_freely.Goals as goal

pub returns : goal.returns
returns g c =
    run_told g.W.Sink g.N.Sink (spec_view c.args.spec.now) (blocks_of c.args.blocks.now) c.args.out.now c.tell_run.new.out c.args.notes.now c.tell_run.new.notes c.free_run_of-run.result c.tell_run.result
    c.free_run_of-run.ensures.regular c.free_run_of-run.ensures.unbroken c.free_run_of-run.ensures.faults c.tell_run.ensures
