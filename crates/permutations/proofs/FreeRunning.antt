-- A closed run whose launches fit has a history of the spec's free run; what is told of it.
use Rattle.std.proofs.Common.{◌≡◌, ◌≢◌, ℕ, length, Result, Ok, Err, IfErr, true, sym, ap, subst, ◌∙◌, true≢false}
use Rattle.std.specs.Prelude.{IfOk, IsTrue}
use Rattle.iso_lexer.specs.declared.device.Sink.{Ghosts as Sink}
use Rattle.session_machine.specs.declared.event.Mode.{Mode}
use Rattle.session_machine.specs.declared.event.Mode.TheVariants.{Free}
use Rattle.session_machine.specs.Machine.{Blocks}
use Rattle.session_machine.specs.Engine.{Engine, IsLegal}
use Rattle.session_core.specs.Engines.{IsOf}
use Rattle.spec_parser.specs.Trees.{SpecTree}
use Rattle.permutation_plans.specs.FreeLaunches.{free_launches}
use Rattle.permutation_plans.specs.FreeRegular.{FreeFits, IsFreeRegular}
use Rattle.session_threads.specs.Closing.{ClosedOf}
use Rattle.spec_files.specs.declared.fault.RunFault.{RunFault}
use Rattle.spec_files.specs.declared.fault.RunFault.TheVariants as faults
use Rattle.spec_files.specs.Begun.{none}
use Rattle.spec_files.specs.Runs.{has_broken, has_ended, is_of_one, is_of_run}
use Rattle.spec_files.specs.Runners.{RanFreely}
use Rattle.spec_files.proofs.Beginning.{free_begun}
use Rattle.spec_files.proofs.FreeTelling.{free_is_told, free_kind, free_unbroken, free_fails}
use Rattle.spec_files.proofs.Telling.{run_is_one, run_is_unended, run_is_unwritten}
use Rattle.permutations.specs.Telling.{Tells}

pub free_regular : (spec : SpecTree) (blocks : Blocks) (e : Engine) → IsOf e blocks (length spec.sessions) Free → IsLegal e.blocks e.count e.mode e.history → FreeFits (free_launches spec) e.history → IsFreeRegular spec blocks e.history
free_regular spec blocks e of legal fits = record {
  legal = subst (λ (b : Blocks). IsLegal b (length spec.sessions) Free e.history) of.0
      (subst (λ (n : ℕ). IsLegal e.blocks n Free e.history) of.1
      (subst (λ (m : Mode). IsLegal e.blocks e.count m e.history) of.2 legal));
  fits = fits;
}

module _ {W N : Type 0} (sink : Sink W) (noted : Sink N) (spec : SpecTree) (blocks : Blocks) (wo wn : W) (eo en : N) where
  -- a run that came to no end was told as its fault
  fault_told : (e : RunFault) (result : Result (Unit {0}) RunFault) → is_of_run e ≡ true → e ≢ faults.ScheduleBroken → Tells sink noted spec (Err e) wo wn eo en result → RanFreely sink noted spec blocks wo wn eo en result
  fault_told e result kind whole told =
      let to_err : (P : Result (Unit {0}) RunFault → Type 0) → P result → P (Err e) = λ P. subst P told.0 in
      record {
        told = λ ended. absurd (run_is_unended e kind (to_err (λ r. IsTrue (has_ended r)) ended));
        begun = none (ap sink.put_so_far told.1.0) (ap noted.put_so_far told.1.1);
        broken = λ _. told.1;
        unbroken = λ is. whole (err_is e faults.ScheduleBroken (sym told.0 ∙ is));
        write = λ is. absurd (run_is_unwritten e kind (err_is e faults.Write (sym told.0 ∙ is)));
        kinds = subst (λ (r : Result (Unit {0}) RunFault). IfErr r (λ e. is_of_one e ≡ true)) (sym told.0) (run_is_one e kind);
      }
    where
      err_is : (a b : RunFault) → ◌≡◌ {A = Result (Unit {0}) RunFault} (Err a) (Err b) → a ≡ b
      err_is a b same = cc

  -- a closed run was told by its history
  pub run_told : (run : Result ClosedOf RunFault) (result : Result (Unit {0}) RunFault)
      → IfOk run (λ c. IsFreeRegular spec blocks c.state.history) → run ≢ Err faults.ScheduleBroken → IfErr run (λ e. is_of_run e ≡ true) → Tells sink noted spec run wo wn eo en result → RanFreely sink noted spec blocks wo wn eo en result
  run_told (Err e) result regular whole kind told = fault_told e result kind (λ is. whole (ap (λ (f : RunFault). Err f) is)) told
  run_told (Ok closed) result regular whole kind told =
      let items = closed.state.history in
      let to = sink.put_so_far wo in
      let tn = sink.put_so_far wn in
      let no = noted.put_so_far eo in
      let nn = noted.put_so_far en in
      let fo = sink.failed wo in
      let fn = sink.failed wn in
      let go = noted.failed eo in
      let gn = noted.failed en in
      record {
        told = λ ended. free_is_told spec items to tn no nn fo fn go gn result blocks regular told ended;
        begun = free_begun fo fn go gn to tn no nn spec blocks items result regular told;
        broken = λ broken. absurd (true≢false (sym broken ∙ free_unbroken spec items to tn no nn fo fn go gn result told));
        unbroken = λ is. absurd (true≢false (sym (ap has_broken is) ∙ free_unbroken spec items to tn no nn fo fn go gn result told));
        write = free_fails spec items to tn no nn fo fn go gn result told;
        kinds = free_kind spec items to tn no nn fo fn go gn result told;
      }
