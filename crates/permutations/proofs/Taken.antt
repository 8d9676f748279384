-- With the blocks and the steps that the spec names an engine refuses nothing that comes next.
use Rattle.std.proofs.Common.{◌≡◌, ◌⊎◌, ◌<◌, ◌+◌, inl, inr, refl, sym, ◌∙◌, true, ℕ, List, length, arith}
use Rattle.std.specs.Prelude.{Result, Ok, Err}
use Rattle.std.proofs.lemmas.Option.{slice_get_within}
use Rattle.session_machine.specs.declared.event.Event.{Event}
use Rattle.session_machine.specs.declared.event.Mode.TheVariants.{Directed}
use Rattle.session_machine.specs.declared.fault.EngineFault.{EngineFault}
use Rattle.session_machine.specs.declared.fault.EngineFault.TheVariants as engine_faults
use Rattle.session_machine.specs.declared.fault.Refusal.{Refusal}
use Rattle.session_machine.specs.declared.reply.HistItem.{HistItem}
use Rattle.session_machine.specs.Machine.{Machine, Blocks, Next, opening, session_of, Run}
use Rattle.session_machine.specs.Engine.{Goes}
use Rattle.session_seats.specs.declared.fault.ThreadFault.{ThreadFault}
use Rattle.session_seats.specs.declared.fault.ThreadFault.TheVariants as thread_faults
use Rattle.session_seats.specs.Refusals.{CannotGoOn, IsRefused, MayStop}
use Rattle.wait_laws.proofs.Events.{session_there}
use Rattle.spec_parser.specs.Trees.{EntryTree, SpecTree}
use Rattle.permutation_plans.specs.Launches.{due_in}
use Rattle.spec_files.specs.Complete.{HasItsBlocks, HasItsSteps}
use Rattle.spec_files.specs.Faults.{thread_fault}
use Rattle.spec_files.specs.Stopped.{is_of_threads}
use Rattle.history_laws.proofs.Accepted.{all_there}
use Rattle.history_laws.proofs.Taken.{next_is_done}

both_ways : (refusal : Refusal) (n : Next) → ◌≡◌ {A = Result Next Refusal} (Err refusal) (Ok n) → ⊥
both_ways refusal n h = cc

-- a session that is there has a number that is none too great
not_over : (blocks : Blocks) (count : ℕ) (items : List HistItem) (m : Machine) (event : Event) → Run blocks Directed (opening count) items m → Goes blocks Directed m event → count < session_of event → ⊥
not_over blocks count items m event run goes over =
    let found = session_there blocks Directed m event goes.0 goes.1 in
    let long : length m.sessions ≡ count + 1 = all_there blocks Directed count items m run in
    let within : session_of event < length m.sessions = slice_get_within m.sessions (session_of event) found.0 found.1 in
    omega (arith, over, long, within)

module _ (spec : SpecTree) (blocks : Blocks) (entries : List EntryTree) (fit : HasItsBlocks spec blocks) (steps : HasItsSteps spec entries) where
  -- a run by its orders never stands before an event that can't be done
  pub always_goes_on : (fault : EngineFault) → CannotGoOn (due_in spec entries) blocks (length spec.sessions) Directed fault → ⊥
  always_goes_on fault c = by c.undone where
    goes : Goes blocks Directed c.state c.event
    goes = next_is_done spec blocks entries fit steps c.items c.state c.event c.run c.ordered c.due

    by : IsRefused blocks Directed c.state c.event fault ⊎ ((length spec.sessions < session_of c.event) × (fault ≡ engine_faults.NoSession)) → ⊥
    by (inl r) = both_ways r.refusal goes.0 (sym r.refuses ∙ goes.1)
    by (inr over) = not_over blocks (length spec.sessions) c.items c.state c.event c.run goes over.0

  -- what stops such a run is want of memory, or comes from the threads or the gate
  pub of_threads : (f : ThreadFault) → MayStop (due_in spec entries) blocks (length spec.sessions) f → is_of_threads (thread_fault f) ≡ true
  of_threads thread_faults.ThreadRefused may = refl
  of_threads (thread_faults.SeatMismatch s) may = refl
  of_threads thread_faults.Gate may = refl
  of_threads thread_faults.OtherRun may = refl
  of_threads thread_faults.Memory may = refl
  of_threads (thread_faults.Engine engine_faults.Memory) may = refl
  of_threads (thread_faults.Engine engine_faults.Busy) may = absurd (always_goes_on engine_faults.Busy may)
  of_threads (thread_faults.Engine engine_faults.NotYourTurn) may = refl
  of_threads (thread_faults.Engine engine_faults.StillBlocked) may = absurd (always_goes_on engine_faults.StillBlocked may)
  of_threads (thread_faults.Engine engine_faults.Idle) may = absurd (always_goes_on engine_faults.Idle may)
  of_threads (thread_faults.Engine engine_faults.Spent) may = absurd (always_goes_on engine_faults.Spent may)
  of_threads (thread_faults.Engine engine_faults.NoSession) may = absurd (always_goes_on engine_faults.NoSession may)
  of_threads (thread_faults.Engine engine_faults.BlockNotAllowed) may = absurd (always_goes_on engine_faults.BlockNotAllowed may)
