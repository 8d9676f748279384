-- What running a spec file promises, whatever runs its permutations, and what running it freely promises.
use Rattle.std.specs.Prelude.{◌≡◌, ◌≢◌, ◌↔◌, ◌||◌, ℕ, ◌+◌, true, List, take, Option, Result, Ok, Err, IsTrue, IfErr, IfSome, IsErrOf}
use Rattle.iso_lexer.specs.declared.device.Sink.{Ghosts as Sink}
use Rattle.iso_lexer.specs.declared.device.Source.{Ghosts as Source}
use Rattle.iso_lexer.specs.Devices.{IsFront}
use Rattle.iso_lexer.specs.declared.limits.TheConstants.{LONGEST_FILE}
use Rattle.spec_files.specs.declared.fault.RunFault.{RunFault}
use Rattle.spec_files.specs.declared.fault.RunFault.TheVariants as faults
use Rattle.spec_files.specs.Begun.{Begun, FileMaySay, FileSaysFreely, Untouched}
use Rattle.spec_files.specs.Broken.{FileBroken}
use Rattle.spec_files.specs.Files.{FileIs}
use Rattle.spec_files.specs.FreeRuns.{FileFreeTold}
use Rattle.spec_files.specs.Prints.{FileSays}
use Rattle.spec_files.specs.Runs.{is_refusal, has_broken, has_ended, has_read, tells_memory, IsTold}
use Rattle.report_text.specs.Said.{Said}

-- it holds of the file that is left to read, where the source tells its bytes: no more is read than one byte over the longest file
abbrev pub IfFile : Option (List ℕ) → (List ℕ → Type 0) → Type 0
IfFile left P = IfSome left (λ bytes. P (take (LONGEST_FILE + 1) bytes))

module _ {S W N : Type 0} (source : Source S) (sink : Sink W) (noted : Sink N) (input_old input_new : S) (out_old out_new : W) (notes_old notes_new : N) where
  -- the file that is left to read was run, so many of its permutations at most
  pub record SpecIsRun (limit : ℕ) (result : Result (Unit {0}) RunFault) : Type 0 where
    -- where the run comes to an end, be it an early one, what the file says was put, and nothing else, and the answer is that end
    pub told : IfFile (source.left input_old) (λ file. IsTrue (has_ended result) → (said : Said) × FileSays file limit (Ok said)
        × IsTold (sink.put_so_far out_old) (sink.put_so_far out_new) (noted.put_so_far notes_old) (noted.put_so_far notes_new) result said)
    -- however it ends, a prefix of what the file may say went out, and of its notes behind their text, or nothing
    pub begun : IfFile (source.left input_old) (λ file. Begun (FileMaySay file limit)
        (sink.put_so_far out_old) (sink.put_so_far out_new) (noted.put_so_far notes_old) (noted.put_so_far notes_new))
    -- where the threads of a permutation come to no end, the permutations before it were put
    pub broken : IfFile (source.left input_old) (λ file. IsTrue (has_broken result) → FileBroken file limit
        (sink.put_so_far out_old) (sink.put_so_far out_new) (noted.put_so_far notes_old) (noted.put_so_far notes_new))
    -- a refusal is the file's
    pub refused : IfFile (source.left input_old) (λ file. IfErr result (λ e. is_refusal e ≡ true → FileSays file limit (Err e)))
    -- a file is refused before anything is put
    pub untouched : IfErr result (λ e. is_refusal e ≡ true → Untouched out_old out_new notes_old notes_new)
    -- Read is answered exactly where the source has failed
    pub read : IsErrOf result faults.Read ↔ (source.failed input_new ≡ true)
    -- nothing is put of a file that can't be read
    pub unread : IsErrOf result faults.Read → Untouched out_old out_new notes_old notes_new
    -- want of memory is told as such, and as no thread's fault
    pub memory : IfErr result (λ e. tells_memory e ≡ true)
    -- no run ends in ScheduleBroken
    pub unbroken : result ≢ Err faults.ScheduleBroken
    -- Write is answered only where a sink has failed
    pub write : IsErrOf result faults.Write → (sink.failed out_new || noted.failed notes_new) ≡ true
    -- where the file was read, its bytes were taken off the source, and no others
    pub taken : IsTrue (has_read result) → (bytes : List ℕ) × IsFront (LONGEST_FILE + 1) (source.left input_old) (source.left input_new) bytes

  -- the file that is left to read was run freely
  pub record SpecIsRunFreely (result : Result (Unit {0}) RunFault) : Type 0 where
    -- where the run comes to an end, be it an early one, the text of a free run that the file may have was put, and nothing else, and the answer is that end
    pub told : IfFile (source.left input_old) (λ file. IsTrue (has_ended result) → FileFreeTold file
        (sink.put_so_far out_old) (sink.put_so_far out_new) (noted.put_so_far notes_old) (noted.put_so_far notes_new) result)
    -- a refusal is the file's
    pub refused : IfFile (source.left input_old) (λ file. IfErr result (λ e. is_refusal e ≡ true → FileIs file (Err e)))
    -- a file is refused before anything is put
    pub untouched : IfErr result (λ e. is_refusal e ≡ true → Untouched out_old out_new notes_old notes_new)
    -- however it ends, a prefix of such a text went out, and of its notes behind their text, or nothing
    pub begun : IfFile (source.left input_old) (λ file. Begun (FileSaysFreely file)
        (sink.put_so_far out_old) (sink.put_so_far out_new) (noted.put_so_far notes_old) (noted.put_so_far notes_new))
    -- want of memory is told as such, and as no thread's fault
    pub memory : IfErr result (λ e. tells_memory e ≡ true)
    -- nothing is put of threads that come to no end
    pub broken : IsTrue (has_broken result) → Untouched out_old out_new notes_old notes_new
    -- no free run ends in ScheduleBroken
    pub unbroken : result ≢ Err faults.ScheduleBroken
    -- Read is answered exactly where the source has failed
    pub read : IsErrOf result faults.Read ↔ (source.failed input_new ≡ true)
    -- nothing is put of a file that can't be read
    pub unread : IsErrOf result faults.Read → Untouched out_old out_new notes_old notes_new
    -- Write is answered only where a sink has failed
    pub write : IsErrOf result faults.Write → (sink.failed out_new || noted.failed notes_new) ≡ true
    -- where the file was read, its bytes were taken off the source, and no others
    pub taken : IsTrue (has_read result) → (bytes : List ℕ) × IsFront (LONGEST_FILE + 1) (source.left input_old) (source.left input_new) bytes
