-- The answer to writing a permutation, as the answer to its run.
use Rattle.std.proofs.Common.{◌≡◌, ap, ℕ, List, Bool, true, ◌||◌, Option, Result, Ok, Err, refl, sym, subst, ◌∙◌}
use Rattle.std.specs.Prelude.{string_bytes, IsTrue}
use Rattle.session_machine.specs.declared.reply.HistItem.{HistItem}
use Rattle.session_machine.specs.Machine.{Blocks}
use Rattle.session_machine.specs.declared.fault.EngineFault.TheVariants as engines
use Rattle.session_seats.specs.declared.fault.ThreadFault.{ThreadFault}
use Rattle.session_seats.specs.declared.fault.ThreadFault.TheVariants as threads
use Rattle.spec_parser.specs.Trees.{EntryTree, SpecTree}
use Rattle.permutation_plans.specs.Regular.{IsRegular}
use Rattle.report_text.specs.declared.fault.ReportFault.{ReportFault}
use Rattle.report_text.specs.declared.fault.ReportFault.TheVariants as writes
use Rattle.report_text.specs.declared.fault.Ended.{Ended}
use Rattle.report_text.specs.declared.fault.Ended.TheVariants as ends
use Rattle.report_text.specs.Said.{Ending, whole, invalid, setup_failed, setup_waits}
use Rattle.report_text.specs.Answers.{EndsAs, Puts, TellsFailure}
use Rattle.report_text.specs.Permutation.{permutation_says}
use Rattle.spec_files.specs.declared.fault.RunFault.{RunFault}
use Rattle.spec_files.specs.declared.fault.RunFault.TheVariants as faults
use Rattle.spec_files.specs.Faults.{report_fault, thread_fault}
use Rattle.spec_files.specs.Runs.{AnswersRun, IsOneTold, is_early_end, is_of_one, is_of_run, is_of_reading, is_broken, tells_memory}
use Rattle.spec_files.specs.Written.{told_as, IsWritten}

pub answers_ok : (ending : Ending) (e : Ended) → EndsAs ending (Ok e) → AnswersRun ending (Ok tt)
answers_ok ending ends.Whole is = let here : AnswersRun whole (Ok tt) = refl in subst (λ (x : Ending). AnswersRun x (Ok tt)) is here
answers_ok ending ends.Invalid is = let here : AnswersRun invalid (Ok tt) = refl in subst (λ (x : Ending). AnswersRun x (Ok tt)) is here

pub answers_err : (ending : Ending) (f : ReportFault) → EndsAs ending (Err f) → IsTrue (is_early_end (report_fault f)) → AnswersRun ending (Err (report_fault f))
answers_err ending writes.Write is early = absurd cc
answers_err ending writes.Memory is early = absurd cc
answers_err ending (writes.SetupFailed why) is early =
    let here : AnswersRun (setup_failed (string_bytes why)) (Err (faults.SetupFailed why)) = refl in
    subst (λ (x : Ending). AnswersRun x (Err (faults.SetupFailed why))) is here
answers_err ending writes.SetupWaits is early = let here : AnswersRun setup_waits (Err faults.SetupWaits) = refl in subst (λ (x : Ending). AnswersRun x (Err faults.SetupWaits)) is here

of_ok : (spec : SpecTree) (blocks : Blocks) (entries : List EntryTree) (items : List HistItem) (wo wn eo en : Option (List ℕ)) (e : Ended) (told : Result Ended ReportFault) → IsRegular spec blocks entries items
    → ◌≡◌ {A = Result Ended RunFault} (Ok e) (told_as told) → EndsAs (permutation_says spec entries items).ending told → Puts wo wn (permutation_says spec entries items).text told → Puts eo en (permutation_says spec entries items).notes told
    → IsOneTold spec blocks entries wo wn eo en (Ok tt)
of_ok spec blocks entries items wo wn eo en e (Ok x) regular is ending text notes = record { items = items; regular = regular; answer = answers_ok (permutation_says spec entries items).ending x ending; text = text; notes = notes }
of_ok spec blocks entries items wo wn eo en e (Err f) regular is ending text notes = absurd cc

fault_is : (a b : RunFault) → ◌≡◌ {A = Result Ended RunFault} (Err a) (Err b) → a ≡ b
fault_is a b e = cc

of_fault : (spec : SpecTree) (blocks : Blocks) (entries : List EntryTree) (items : List HistItem) (wo wn eo en : Option (List ℕ)) (f : ReportFault) → IsRegular spec blocks entries items
    → EndsAs (permutation_says spec entries items).ending (Err f) → Puts {A = Ended} wo wn (permutation_says spec entries items).text (Err f) → Puts {A = Ended} eo en (permutation_says spec entries items).notes (Err f)
    → IsTrue (is_early_end (report_fault f)) → IsOneTold spec blocks entries wo wn eo en (Err (report_fault f))
of_fault spec blocks entries items wo wn eo en writes.Write regular ending text notes early = absurd cc
of_fault spec blocks entries items wo wn eo en writes.Memory regular ending text notes early = absurd cc
of_fault spec blocks entries items wo wn eo en (writes.SetupFailed why) regular ending text notes early = record { items = items; regular = regular; answer = answers_err (permutation_says spec entries items).ending (writes.SetupFailed why) ending early; text = text; notes = notes }
of_fault spec blocks entries items wo wn eo en writes.SetupWaits regular ending text notes early = record { items = items; regular = regular; answer = answers_err (permutation_says spec entries items).ending writes.SetupWaits ending early; text = text; notes = notes }

of_err : (spec : SpecTree) (blocks : Blocks) (entries : List EntryTree) (items : List HistItem) (wo wn eo en : Option (List ℕ)) (e : RunFault) (told : Result Ended ReportFault) → IsRegular spec blocks entries items
    → ◌≡◌ {A = Result Ended RunFault} (Err e) (told_as told) → EndsAs (permutation_says spec entries items).ending told → Puts wo wn (permutation_says spec entries items).text told → Puts eo en (permutation_says spec entries items).notes told
    → IsTrue (is_early_end e) → IsOneTold spec blocks entries wo wn eo en (Err e)
of_err spec blocks entries items wo wn eo en e (Ok x) regular is ending text notes early = absurd cc
of_err spec blocks entries items wo wn eo en e (Err f) regular is ending text notes early =
    let same = fault_is e (report_fault f) is in
    subst (λ (d : RunFault). IsOneTold spec blocks entries wo wn eo en (Err d)) (sym same) (of_fault spec blocks entries items wo wn eo en f regular ending text notes (subst (λ (d : RunFault). IsTrue (is_early_end d)) same early))

-- which faults there are
one_kind : (f : ReportFault) → is_of_one (report_fault f) ≡ true
one_kind writes.Write = refl
one_kind writes.Memory = refl
one_kind (writes.SetupFailed why) = refl
one_kind writes.SetupWaits = refl

err_kind : (e : RunFault) (told : Result Ended ReportFault) → ◌≡◌ {A = Result Ended RunFault} (Err e) (told_as told) → is_of_one e ≡ true
err_kind e (Ok x) is = absurd cc
err_kind e (Err f) is = subst (λ (d : RunFault). is_of_one d ≡ true) (sym (fault_is e (report_fault f) is)) (one_kind f)

not_broken : (f : ReportFault) → is_broken (report_fault f) ≡ true → ⊥
not_broken writes.Write e = cc
not_broken writes.Memory e = cc
not_broken (writes.SetupFailed why) e = cc
not_broken writes.SetupWaits e = cc

err_broken : (e : RunFault) (told : Result Ended ReportFault) → ◌≡◌ {A = Result Ended RunFault} (Err e) (told_as told) → is_broken e ≡ true → ⊥
err_broken e (Ok x) is broken = cc
err_broken e (Err f) is broken = not_broken f (ap is_broken (sym (fault_is e (report_fault f) is)) ∙ broken)

write_fails : (fo fn go gn : Bool) (f : ReportFault) → report_fault f ≡ faults.Write → TellsFailure {A = Ended} fo fn go gn (Err f) → (fn || gn) ≡ true
write_fails fo fn go gn writes.Write e fails = fails
write_fails fo fn go gn writes.Memory e fails = absurd cc
write_fails fo fn go gn (writes.SetupFailed why) e fails = absurd cc
write_fails fo fn go gn writes.SetupWaits e fails = absurd cc

err_write : (fo fn go gn : Bool) (e : RunFault) (told : Result Ended ReportFault) → ◌≡◌ {A = Result Ended RunFault} (Err e) (told_as told) → TellsFailure fo fn go gn told → e ≡ faults.Write → (fn || gn) ≡ true
err_write fo fn go gn e (Ok x) is fails write = absurd cc
err_write fo fn go gn e (Err f) is fails write = write_fails fo fn go gn f (sym (fault_is e (report_fault f) is) ∙ write) fails

-- ---- the same of what was written

module _ (spec : SpecTree) (blocks : Blocks) (entries : List EntryTree) (items : List HistItem) (wo wn eo en : Option (List ℕ)) (fo fn go gn : Bool) where
  pub told_ok : (e : Ended) → IsRegular spec blocks entries items → IsWritten spec entries items wo wn eo en fo fn go gn (Ok e) → IsOneTold spec blocks entries wo wn eo en (Ok tt)
  told_ok e regular w = of_ok spec blocks entries items wo wn eo en e w.told regular w.is w.ending w.text w.notes

  pub told_err : (e : RunFault) → IsRegular spec blocks entries items → IsWritten spec entries items wo wn eo en fo fn go gn (Err e) → IsTrue (is_early_end e) → IsOneTold spec blocks entries wo wn eo en (Err e)
  told_err e regular w early = of_err spec blocks entries items wo wn eo en e w.told regular w.is w.ending w.text w.notes early

  pub told_kind : (e : RunFault) → IsWritten spec entries items wo wn eo en fo fn go gn (Err e) → is_of_one e ≡ true
  told_kind e w = err_kind e w.told w.is

  pub told_broken : (e : RunFault) → IsWritten spec entries items wo wn eo en fo fn go gn (Err e) → is_broken e ≡ true → ⊥
  told_broken e w broken = err_broken e w.told w.is broken

  pub told_write : (e : RunFault) → IsWritten spec entries items wo wn eo en fo fn go gn (Err e) → e ≡ faults.Write → (fn || gn) ≡ true
  told_write e w write = err_write fo fn go gn e w.told w.is w.fails write

-- ---- which fault becomes which

-- want of memory is told as such, wherever a thread met it
pub thread_kind : (f : ThreadFault) → is_of_run (thread_fault f) ≡ true
thread_kind threads.ThreadRefused = refl
thread_kind (threads.SeatMismatch s) = refl
thread_kind threads.Gate = refl
thread_kind threads.OtherRun = refl
thread_kind threads.Memory = refl
thread_kind (threads.Engine engines.Busy) = refl
thread_kind (threads.Engine engines.NotYourTurn) = refl
thread_kind (threads.Engine engines.StillBlocked) = refl
thread_kind (threads.Engine engines.Idle) = refl
thread_kind (threads.Engine engines.Spent) = refl
thread_kind (threads.Engine engines.Memory) = refl
thread_kind (threads.Engine engines.NoSession) = refl
thread_kind (threads.Engine engines.BlockNotAllowed) = refl

-- a fault of a run is one of a permutation
pub run_is_one : (e : RunFault) → is_of_run e ≡ true → is_of_one e ≡ true
run_is_one faults.Read is = absurd cc
run_is_one faults.Write is = refl
run_is_one (faults.Lex f) is = absurd cc
run_is_one (faults.Spec f) is = absurd cc
run_is_one (faults.Sql f) is = absurd cc
run_is_one (faults.SetupFailed text) is = refl
run_is_one faults.SetupWaits is = refl
run_is_one faults.ScheduleBroken is = refl
run_is_one faults.TooManyPermutations is = absurd cc
run_is_one (faults.Threads f) is = is
run_is_one (faults.NotUtf8 at) is = absurd cc
run_is_one faults.Memory is = refl

-- and no early end
pub run_is_unended : (e : RunFault) → is_of_run e ≡ true → IsTrue (is_early_end e) → ⊥
run_is_unended faults.Read is ended = cc
run_is_unended faults.Write is ended = cc
run_is_unended (faults.Lex f) is ended = cc
run_is_unended (faults.Spec f) is ended = cc
run_is_unended (faults.Sql f) is ended = cc
run_is_unended (faults.SetupFailed text) is ended = cc
run_is_unended faults.SetupWaits is ended = cc
run_is_unended faults.ScheduleBroken is ended = cc
run_is_unended faults.TooManyPermutations is ended = cc
run_is_unended (faults.Threads f) is ended = cc
run_is_unended (faults.NotUtf8 at) is ended = cc
run_is_unended faults.Memory is ended = cc

-- and no failed device
pub run_is_unwritten : (e : RunFault) → is_of_run e ≡ true → e ≡ faults.Write → ⊥
run_is_unwritten e is write = no (subst (λ (f : RunFault). is_of_run f ≡ true) write is)
  where
    no : is_of_run faults.Write ≡ true → ⊥
    no h = cc

-- a fault of a permutation tells want of memory as such
pub one_tells : (e : RunFault) → is_of_one e ≡ true → tells_memory e ≡ true
one_tells faults.Read is = refl
one_tells faults.Write is = refl
one_tells (faults.Lex f) is = refl
one_tells (faults.Spec f) is = refl
one_tells (faults.Sql f) is = refl
one_tells (faults.SetupFailed text) is = refl
one_tells faults.SetupWaits is = refl
one_tells faults.ScheduleBroken is = refl
one_tells faults.TooManyPermutations is = refl
one_tells (faults.Threads f) is = is
one_tells (faults.NotUtf8 at) is = refl
one_tells faults.Memory is = refl

pub reading_tells : (e : RunFault) → is_of_reading e ≡ true → tells_memory e ≡ true
reading_tells faults.Read is = refl
reading_tells faults.Write is = refl
reading_tells (faults.Lex f) is = refl
reading_tells (faults.Spec f) is = refl
reading_tells (faults.Sql f) is = refl
reading_tells (faults.SetupFailed text) is = refl
reading_tells faults.SetupWaits is = refl
reading_tells faults.ScheduleBroken is = refl
reading_tells faults.TooManyPermutations is = refl
reading_tells (faults.Threads f) is = absurd cc
reading_tells (faults.NotUtf8 at) is = refl
reading_tells faults.Memory is = refl
