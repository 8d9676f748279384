-- The run of a whole file.
use Rattle.std.proofs.Common.{◌≡◌, ◌≢◌, ◌≤◌, ℕ, true, List, [], length, Option, Result, Ok, Err, subst}
use Rattle.std.specs.Prelude.{IsUtf8}
use Rattle.iso_lexer.specs.declared.limits.TheConstants.{LONGEST_FILE}
use Rattle.std.specs.Io.KnownBytes.{Appends}
use Rattle.permutation_lists.specs.Permutations.{permutations_of}
use Rattle.spec_files.specs.declared.fault.RunFault.{RunFault}
use Rattle.spec_files.specs.declared.fault.RunFault.TheVariants as faults
use Rattle.report_text.specs.Said.{Said}
use Rattle.spec_files.proofs.Listing.{behind}
use Rattle.spec_files.specs.FirstLine.{first_line}
use Rattle.spec_files.specs.Files.{File, FileIs, is_spec}
use Rattle.spec_files.specs.Prints.{Prints, FileSays, refused, runs}
use Rattle.spec_files.specs.Runs.{is_refusal, IsTold}
use Rattle.spec_files.specs.Broken.{RunBroken, FileBroken}
use Rattle.spec_files.proofs.Listing.{appends_more, differs}

pub refused_file : (bytes : List ℕ) (limit : ℕ) (e : RunFault) → (e ≢ faults.Memory → FileIs bytes (Err e)) → is_refusal e ≡ true → FileSays bytes limit (Err e)
refused_file bytes limit e is refusal = refused e (is (differs e refusal))

-- a run whose text stands behind the first line
pub record Ran (bytes : List ℕ) (limit : ℕ) (out_old out_new notes_old notes_new : Option (List ℕ)) (result : Result (Unit {0}) RunFault) : Type 0 where
  pub said : Said
  pub says_so : FileSays bytes limit (Ok said)
  pub told : IsTold out_old out_new notes_old notes_new result said

pub ran : (bytes : List ℕ) (limit : ℕ) (file : File) (wo wm wn eo en : Option (List ℕ)) (result : Result (Unit {0}) RunFault) (line : List ℕ) (said : Said)
    → FileIs bytes (Ok file) → line ≡ first_line file.spec → Appends wo wm line
    → Prints file.spec file.blocks limit (permutations_of file.spec) said → IsTold wm wn eo en result said → Ran bytes limit wo wn eo en result
ran bytes limit file wo wm wn eo en result line said is same put prints told = record {
  said = behind (first_line file.spec) [] said;
  says_so = runs file said is prints;
  told = record {
    answer = told.answer;
    text = appends_more wo wm wn (first_line file.spec) said.text (subst (Appends wo wm) same put) told.text;
    notes = told.notes;
  };
}

pub broke : (bytes : List ℕ) (limit : ℕ) (file : File) (wo wm wn eo en : Option (List ℕ)) (line : List ℕ)
    → FileIs bytes (Ok file) → line ≡ first_line file.spec → Appends wo wm line
    → RunBroken file.spec file.blocks limit (permutations_of file.spec) wm wn eo en → FileBroken bytes limit wo wn eo en
broke bytes limit file wo wm wn eo en line is same put b = record {
  done = b.done;
  said = behind (first_line file.spec) [] b.said;
  fewer = b.fewer;
  says_so = runs file b.said is b.prints;
  one_more = b.one_more;
  text = appends_more wo wm wn (first_line file.spec) b.said.text (subst (Appends wo wm) same put) b.text;
  notes = b.notes;
}

-- a spec is no longer than a file may be, and in UTF-8
pub room_of : (bytes : List ℕ) (f : File) → FileIs bytes (Ok f) → (length bytes ≤ LONGEST_FILE) × IsUtf8 bytes
room_of bytes f (is_spec spec blocks few utf8 reads says) = (few, utf8)
