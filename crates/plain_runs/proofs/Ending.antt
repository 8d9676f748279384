-- A run on one thread that met a fault has come to no end, and nothing of it is written; and the faults of printing such runs.
use Rattle.std.proofs.Common.{◌≡◌, ℕ, Bool, List, true, false, true≢false, refl, sym, ap, subst}
use Rattle.std.specs.Prelude.{Err}
use Rattle.spec_files.specs.Files.{FileIs}
use Rattle.spec_files.specs.declared.fault.RunFault.{RunFault}
use Rattle.spec_files.specs.declared.fault.RunFault.TheVariants as faults
use Rattle.spec_files.specs.Runs.{is_broken, is_early_end, is_of_one, is_refusal}
use Rattle.plain_runs.specs.Alone.{IsOfFile, IsOfPrint, memory, refused}

pub no_end : (e : RunFault) → e ≡ faults.Memory → is_early_end e ≡ false
no_end e is = ap is_early_end is

-- want of memory is what a print may meet
pub of_run : (failed : Bool) (e : RunFault) → e ≡ faults.Memory → IsOfPrint failed e
of_run failed e is = subst (IsOfPrint failed) (sym is) tt

-- what writing a report met is what its print meets
pub of_report : (failed : Bool) (e : RunFault) → is_of_one e ≡ true → (is_broken e ≡ true → ⊥) → (e ≡ faults.Write → failed ≡ true) → IsOfPrint failed e
of_report failed faults.Memory kind whole write = tt
of_report failed faults.Write kind whole write = write refl
of_report failed (faults.SetupFailed text) kind whole write = refl
of_report failed faults.SetupWaits kind whole write = refl
of_report failed faults.ScheduleBroken kind whole write = absurd (whole refl)
of_report failed (faults.Threads f) kind whole write = absurd (whole refl)
of_report failed faults.Read kind whole write = absurd (true≢false (sym kind))
of_report failed (faults.Lex f) kind whole write = absurd (true≢false (sym kind))
of_report failed (faults.Spec f) kind whole write = absurd (true≢false (sym kind))
of_report failed (faults.Sql f) kind whole write = absurd (true≢false (sym kind))
of_report failed faults.TooManyPermutations kind whole write = absurd (true≢false (sym kind))
of_report failed (faults.NotUtf8 at) kind whole write = absurd (true≢false (sym kind))

-- a print that has begun is none of a file that is refused
pub no_refusal : (failed : Bool) (e : RunFault) → IsOfPrint failed e → is_refusal e ≡ true → ⊥
no_refusal failed (faults.Lex f) is refusal = true≢false (sym is)
no_refusal failed (faults.Spec f) is refusal = true≢false (sym is)
no_refusal failed (faults.Sql f) is refusal = true≢false (sym is)
no_refusal failed (faults.NotUtf8 at) is refusal = true≢false (sym is)
no_refusal failed faults.Memory is refusal = true≢false (sym refusal)
no_refusal failed faults.Write is refusal = true≢false (sym refusal)
no_refusal failed (faults.Threads f) is refusal = true≢false (sym refusal)
no_refusal failed faults.Read is refusal = true≢false (sym refusal)
no_refusal failed (faults.SetupFailed text) is refusal = true≢false (sym refusal)
no_refusal failed faults.SetupWaits is refusal = true≢false (sym refusal)
no_refusal failed faults.ScheduleBroken is refusal = true≢false (sym refusal)
no_refusal failed faults.TooManyPermutations is refusal = true≢false (sym refusal)

-- what reading a file met
pub of_reading : (bytes : List ℕ) (failed : Bool) (e : RunFault) → ((e ≡ faults.Memory → ⊥) → FileIs bytes (Err e)) → IsOfFile bytes failed e
of_reading bytes failed faults.Memory is = memory refl
of_reading bytes failed faults.Read is = refused (is (λ e. cc))
of_reading bytes failed faults.Write is = refused (is (λ e. cc))
of_reading bytes failed (faults.Lex f) is = refused (is (λ e. cc))
of_reading bytes failed (faults.Spec f) is = refused (is (λ e. cc))
of_reading bytes failed (faults.Sql f) is = refused (is (λ e. cc))
of_reading bytes failed (faults.SetupFailed text) is = refused (is (λ e. cc))
of_reading bytes failed faults.SetupWaits is = refused (is (λ e. cc))
of_reading bytes failed faults.ScheduleBroken is = refused (is (λ e. cc))
of_reading bytes failed (faults.Threads f) is = refused (is (λ e. cc))
of_reading bytes failed faults.TooManyPermutations is = refused (is (λ e. cc))
of_reading bytes failed (faults.NotUtf8 at) is = refused (is (λ e. cc))
