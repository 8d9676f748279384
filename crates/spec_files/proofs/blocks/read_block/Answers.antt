use Rattle.std.proofs.Common.{sym, subst}
use Rattle.std.specs.Prelude.{Err}
use Rattle.spec_files.specs.declared.fault.RunFault.{RunFault}
use Rattle.spec_files.specs.BlockAnswers.{placed_view, Says}
use Rattle.spec_files.proofs.Reading.{says_fault}
use Rattle.spec_files.proofs.blocks.read_block.Goals as goal

pub returns-in-Err : goal.returns-in-Err
returns-in-Err c = subst (λ (e : RunFault). Says (placed_view c.args.placed.now) (Err e)) (sym c.as_run_fault.ensures) (says_fault (placed_view c.args.placed.now) c.in-Err.fault c.in-Err.ensures.exact)
