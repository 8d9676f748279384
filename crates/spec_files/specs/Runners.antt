-- What is asked of who runs the permutations of a file, and of who runs a file freely.
use Rattle.std.specs.Prelude.{◌≡◌, ◌≢◌, ◌||◌, true, Result, Err, IsTrue, IfErr, IsErrOf}
use Rattle.std.specs.Borrow.{Bor, MutBor}
use Rattle.std.specs.Global.{Vec}
use Rattle.iso_lexer.specs.declared.device.Sink.{Ghosts as Sink}
use Rattle.session_machine.specs.Machine.{Blocks}
use Rattle.sql_blocks.specs.Blocks.{blocks_of}
use Rattle.spec_parser.specs.declared.tree.Entry.{Entry}
use Rattle.spec_parser.specs.Trees.{SpecTree, spec_view}
use Rattle.spec_parser.specs.Stands.{Stands}
use Rattle.spec_files.specs.declared.draft.Draft.{Draft}
use Rattle.spec_files.specs.declared.fault.RunFault.{RunFault}
use Rattle.spec_files.specs.declared.fault.RunFault.TheVariants as faults
use Rattle.spec_files.specs.declared.file.SpecFile.{SpecFile}
use Rattle.spec_files.specs.Begun.{Begun, FreeSays, Untouched}
use Rattle.spec_files.specs.Drafts.{AreDrafts, HasRoomFor, IsDraft}
use Rattle.spec_files.specs.FreeRuns.{IsFreeTold}
use Rattle.spec_files.specs.Runs.{is_of_one, has_broken, has_ended}

-- it may be called with a file, the entries of some of its permutations, and room for their drafts, and answers these drafts in the same order
pub record RunsEach (pre : Bor SpecFile → Vec (Vec Entry) → Vec Draft → Type 0) (post : Bor SpecFile → Vec (Vec Entry) → Vec Draft → Vec Draft → Type 0) : Type 0 where
  pub accepts : (file : Bor SpecFile) (taken : Vec (Vec Entry)) (room : Vec Draft) → Stands (spec_view file.now.spec) → HasRoomFor room taken.items → pre file taken room
  pub drafts : (file : Bor SpecFile) (taken : Vec (Vec Entry)) (room drafts : Vec Draft) → post file taken room drafts
      → AreDrafts (IsDraft (spec_view file.now.spec) (blocks_of file.now.blocks.items)) taken.items drafts

module _ {W N : Type 0} (sink : Sink W) (noted : Sink N) where
  -- a free run of the spec is told, or begun, or none of it is written
  pub record RanFreely (spec : SpecTree) (blocks : Blocks) (out_old out_new : W) (notes_old notes_new : N) (result : Result (Unit {0}) RunFault) : Type 0 where
    pub told : IsTrue (has_ended result) → IsFreeTold spec blocks (sink.put_so_far out_old) (sink.put_so_far out_new) (noted.put_so_far notes_old) (noted.put_so_far notes_new) result
    pub begun : Begun (FreeSays spec blocks) (sink.put_so_far out_old) (sink.put_so_far out_new) (noted.put_so_far notes_old) (noted.put_so_far notes_new)
    pub broken : IsTrue (has_broken result) → Untouched out_old out_new notes_old notes_new
    pub unbroken : result ≢ Err faults.ScheduleBroken
    pub write : IsErrOf result faults.Write → (sink.failed out_new || noted.failed notes_new) ≡ true
    pub kinds : IfErr result (λ e. is_of_one e ≡ true)

  -- it may be called with a file and two sinks, and runs the file freely
  pub record RunsFreely (pre : Bor SpecFile → MutBor W → MutBor N → Type 0) (post : Bor SpecFile → MutBor W → MutBor N → Result (Unit {0}) RunFault → MutBor W → MutBor N → Type 0) : Type 0 where
    pub accepts : (file : Bor SpecFile) (out : MutBor W) (notes : MutBor N) → Stands (spec_view file.now.spec) → pre file out notes
    pub runs : (file : Bor SpecFile) (out out_after : MutBor W) (notes notes_after : MutBor N) (result : Result (Unit {0}) RunFault)
        → post file out notes result out_after notes_after
        → RanFreely (spec_view file.now.spec) (blocks_of file.now.blocks.items) out.now out_after.now notes.now notes_after.now result
