use Rattle.std.proofs.Common.{length, rules}
use Rattle.std.proofs.lemmas.Result.{err_from_is_err_and}
use Rattle.session_machine.specs.declared.event.Mode.TheVariants.{Free}
use Rattle.session_core.specs.Engines.{IsOf}
use Rattle.sql_blocks.specs.Blocks.{blocks_of}
use Rattle.spec_parser.specs.Trees.{spec_view}
use Rattle.permutation_plans.specs.FreeLaunches.{free_launches}
use Rattle.spec_files.proofs.FreeFitting.{plan_fits_free}
use Rattle.spec_files.proofs.Telling.{thread_kind}
use Rattle.permutations.proofs.FreeRunning.{free_regular}
use Rattle.permutations.proofs.free_run.free_run_of.Goals as goal

pub returns-in_err-closed-clause-faults : goal.returns-in_err-closed-clause-faults
returns-in_err-closed-clause-faults g c =
    let p = err_from_is_err_and c.from_residual-in_err-closed.result c.from_residual-in_err-closed.ensures.1 in
    rw (p.1, p.2) (thread_kind c.in_err-closed.field-0.0)

pub returns-clause-regular : goal.returns-clause-regular
returns-clause-regular g c =
    let spec = spec_view c.args.spec.now in
    let blocks = blocks_of c.args.blocks.now in
    let state = c.in_ok-closed.closed.state in
    let of : IsOf state blocks (length spec.sessions) Free = search rules in
    let fits =
    plan_fits_free c.in_ok-plan.plan (free_launches spec) state.blocks state.count state.mode state.history c.in_ok-plan.ensures.before c.in_ok-plan.ensures.scripts c.in_ok-plan.ensures.after
    c.is_legal.ensures c.in_ok-closed.ensures.fits in
    free_regular spec blocks state of c.is_legal.ensures fits
