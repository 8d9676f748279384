use Rattle.std.proofs.Common.{◌≡◌, map, length, arith, rules}
use Rattle.std.proofs.lemmas.List.{length-map}
use Rattle.sql_blocks.specs.Blocks.{blocks_of}
use Rattle.spec_parser.specs.Trees.{entry_view, session_view, spec_view}
use Rattle.session_seats.specs.declared.fault.ThreadFault.TheVariants.{Engine}
use Rattle.permutation_plans.specs.Launches.{due_in}
use Rattle.plain_runs.specs.Alone.{IsOfAlone}
use Rattle.spec_files.specs.Faults.{thread_fault}
use Rattle.spec_files.proofs.Driven.{plan_fits}
use Rattle.spec_files.proofs.Rested.{regular}
use Rattle.spec_files.specs.declared.fault.RunFault.TheVariants as faults
use Rattle.plain_runs.proofs.Going.{told_alone}
use Rattle.plain_runs.proofs.Taken.{alone_sure}
use Rattle.plain_runs.proofs.one_run.run_alone.Goals as goal

pub returns-clause-regular : goal.returns-clause-regular
returns-clause-regular c =
    let spec = spec_view c.args.spec.now in
    let entries = map entry_view c.args.entries.now in
    let ran = c.in_default.ensures in
    regular spec (blocks_of c.args.blocks.now) entries _ c.in_ok-engine.engine c.run_to_end.new.engine c.in_ok-engine.ensures ran.same
    (omega (arith, c.len-sessions.ensures, c.args.spec.now.sessions.ok.0, length-map c.args.spec.now.sessions.items session_view)) ran.rests
    (plan_fits spec entries c.in_ok-plan.plan c.run_to_end.new.engine.history c.in_ok-plan.ensures.plan.0 c.in_ok-plan.ensures.plan.1 ran.driven)

pub returns-in-Err-clause-faults : goal.returns-in-Err-clause-faults
returns-in-Err-clause-faults c =
    let spec = spec_view c.args.spec.now in
    let entries = map entry_view c.args.entries.now in
    let told : IsOfAlone (due_in spec entries) (blocks_of c.args.blocks.now) (length spec.sessions) (thread_fault (Engine c.in-Err.fault)) =
    told_alone spec entries (blocks_of c.args.blocks.now) _ c.in_ok-plan.plan c.in_ok-engine.engine c.in-Err.fault c.in_ok-plan.ensures.plan.0 c.in_ok-plan.ensures.plan.1 c.in_ok-engine.ensures
    (omega (arith, c.len-sessions.ensures, c.args.spec.now.sessions.ok.0, length-map c.args.spec.now.sessions.items session_view)) c.in-Err.ensures.refused in
    search rules

pub returns-in-Err-clause-sure : goal.returns-in-Err-clause-sure
returns-in-Err-clause-sure c = λ fit steps.
    let spec = spec_view c.args.spec.now in
    let entries = map entry_view c.args.entries.now in
    let told : IsOfAlone (due_in spec entries) (blocks_of c.args.blocks.now) (length spec.sessions) (thread_fault (Engine c.in-Err.fault)) =
    told_alone spec entries (blocks_of c.args.blocks.now) _ c.in_ok-plan.plan c.in_ok-engine.engine c.in-Err.fault c.in_ok-plan.ensures.plan.0 c.in_ok-plan.ensures.plan.1 c.in_ok-engine.ensures
    (omega (arith, c.len-sessions.ensures, c.args.spec.now.sessions.ok.0, length-map c.args.spec.now.sessions.items session_view)) c.in-Err.ensures.refused in
    let sure : thread_fault (Engine c.in-Err.fault) ≡ faults.Memory = alone_sure spec (blocks_of c.args.blocks.now) entries fit steps (thread_fault (Engine c.in-Err.fault)) told in
    search rules
