-- With the blocks and the steps that the spec names nothing is refused that comes next.
use Rattle.std.proofs.Common.{◌≡◌, refl, sym, ◌∙◌, List, length}
use Rattle.std.specs.Prelude.{Result, Ok, Err}
use Rattle.session_machine.specs.declared.event.Mode.TheVariants.{Directed}
use Rattle.session_machine.specs.declared.fault.EngineFault.{EngineFault}
use Rattle.session_machine.specs.declared.fault.Refusal.{Refusal}
use Rattle.session_machine.specs.Machine.{Blocks, Next}
use Rattle.session_seats.specs.declared.fault.ThreadFault.TheVariants as thread_faults
use Rattle.spec_parser.specs.Trees.{EntryTree, SpecTree}
use Rattle.permutation_plans.specs.Launches.{due_in}
use Rattle.spec_files.specs.Complete.{HasItsBlocks, HasItsSteps}
use Rattle.spec_files.specs.declared.fault.RunFault.{RunFault}
use Rattle.spec_files.specs.declared.fault.RunFault.TheVariants as faults
use Rattle.history_laws.proofs.Taken.{next_is_done}
use Rattle.plain_runs.specs.Alone.{IsOfAlone, RefusesNext}

both_ways : (refusal : Refusal) (n : Next) → ◌≡◌ {A = Result Next Refusal} (Err refusal) (Ok n) → ⊥
both_ways refusal n h = cc

module _ (spec : SpecTree) (blocks : Blocks) (entries : List EntryTree) (fit : HasItsBlocks spec blocks) (steps : HasItsSteps spec entries) where
  never_refused : (fault : EngineFault) → RefusesNext (due_in spec entries) blocks (length spec.sessions) Directed fault → ⊥
  never_refused fault r =
      let goes = next_is_done spec blocks entries fit steps r.items r.state r.event r.run r.ordered r.due in
      both_ways r.refusal goes.0 (sym r.refuses ∙ goes.1)

  -- so such a run meets nothing but want of memory
  pub alone_sure : (e : RunFault) → IsOfAlone (due_in spec entries) blocks (length spec.sessions) e → e ≡ faults.Memory
  alone_sure faults.Memory is = refl
  alone_sure (faults.Threads (thread_faults.Engine fault)) is = absurd (never_refused fault is)
  alone_sure (faults.Threads thread_faults.Memory) is = absurd is
  alone_sure (faults.Threads _) is = absurd is
  alone_sure faults.Read is = absurd is
  alone_sure faults.Write is = absurd is
  alone_sure (faults.Lex f) is = absurd is
  alone_sure (faults.Spec f) is = absurd is
  alone_sure (faults.Sql f) is = absurd is
  alone_sure (faults.SetupFailed text) is = absurd is
  alone_sure faults.SetupWaits is = absurd is
  alone_sure faults.ScheduleBroken is = absurd is
  alone_sure faults.TooManyPermutations is = absurd is
  alone_sure (faults.NotUtf8 at) is = absurd is
