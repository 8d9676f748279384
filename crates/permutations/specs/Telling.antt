-- That what goes out is the text of the run that was made, and of no other.
use Rattle.std.specs.Prelude.{◌≡◌, Result, Ok, Err}
use Rattle.iso_lexer.specs.declared.device.Sink.{Ghosts as Sink}
use Rattle.session_threads.specs.Closing.{ClosedOf}
use Rattle.spec_parser.specs.Trees.{SpecTree}
use Rattle.spec_files.specs.declared.fault.RunFault.{RunFault}
use Rattle.spec_files.specs.Begun.{Untouched}
use Rattle.spec_files.specs.FreeRuns.{IsFreeWritten}

module _ {W N : Type 0} (sink : Sink W) (noted : Sink N) (spec : SpecTree) where
  -- of a closed run the text of its history goes out, and its notes behind it; of a run that came to no end nothing, and the answer is why
  abbrev pub Tells : Result ClosedOf RunFault → W → W → N → N → Result (Unit {0}) RunFault → Type 0
  Tells (Ok closed) out_old out_new notes_old notes_new result =
      IsFreeWritten spec closed.state.history (sink.put_so_far out_old) (sink.put_so_far out_new) (noted.put_so_far notes_old) (noted.put_so_far notes_new)
      (sink.failed out_old) (sink.failed out_new) (noted.failed notes_old) (noted.failed notes_new) result
  Tells (Err e) out_old out_new notes_old notes_new result = (result ≡ Err e) × Untouched out_old out_new notes_old notes_new
