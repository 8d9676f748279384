-- What has gone out wherever a call ends, also where memory is refused or a device fails.
use Rattle.std.specs.Prelude.{◌≡◌, ℕ, ◌≤◌, List, ◌++◌, Option, Ok}
use Rattle.std.specs.Io.KnownBytes.{Appends}
use Rattle.iso_lexer.specs.Devices.{PutsFront}
use Rattle.session_machine.specs.declared.reply.HistItem.{HistItem}
use Rattle.session_machine.specs.Machine.{Blocks}
use Rattle.spec_parser.specs.Trees.{EntryTree, SpecTree}
use Rattle.permutation_plans.specs.Regular.{IsRegular}
use Rattle.permutation_plans.specs.FreeRegular.{IsFreeRegular}
use Rattle.report_text.specs.Permutation.{permutation_says}
use Rattle.report_text.specs.FreeText.{free_says}
use Rattle.report_text.specs.Said.{Said}
use Rattle.spec_files.specs.Files.{File, FileIs}
use Rattle.spec_files.specs.Lists.{FileLists}
use Rattle.spec_files.specs.Prints.{Prints, FileSays}
use Rattle.spec_files.specs.FreeRuns.{free_text}

-- nothing was put to either sink
abbrev pub Untouched : {W N : Type 0} → W → W → N → N → Type 0
Untouched out_old out_new notes_old notes_new = (out_new ≡ out_old) × (notes_new ≡ notes_old)

-- nothing went out, or a prefix of what the file lists
pub data ListBegun (bytes : List ℕ) (limit : ℕ) (old new : Option (List ℕ)) : Type 0 where
  nothing : new ≡ old → ListBegun bytes limit old new
  begun : (said : Said) → FileLists bytes limit (Ok said) → PutsFront old new said.text → ListBegun bytes limit old new

-- this text went out whole, and maybe more behind it
pub record PutsWhole (old new : Option (List ℕ)) (text : List ℕ) : Type 0 where
  pub more : List ℕ
  pub went_out : Appends old new (text ++ more)

-- notes come behind their text: nothing was noted, or a prefix of the notes on a text that went out whole
pub data NotesBehind (MaySay : List ℕ → List ℕ → Type 0) (out_old out_new notes_old notes_new : Option (List ℕ)) : Type 0 where
  unnoted : notes_new ≡ notes_old → NotesBehind MaySay out_old out_new notes_old notes_new
  noted : (text notes : List ℕ) → MaySay text notes → PutsWhole out_old out_new text → PutsFront notes_old notes_new notes → NotesBehind MaySay out_old out_new notes_old notes_new

-- nothing went out, or a prefix of a text that may be said, and of its notes, which come behind their text
pub data Begun (MaySay : List ℕ → List ℕ → Type 0) (out_old out_new notes_old notes_new : Option (List ℕ)) : Type 0 where
  none : out_new ≡ out_old → notes_new ≡ notes_old → Begun MaySay out_old out_new notes_old notes_new
  fronts : (text notes : List ℕ) → MaySay text notes → PutsFront out_old out_new text → PutsFront notes_old notes_new notes
      → NotesBehind MaySay out_old out_new notes_old notes_new → Begun MaySay out_old out_new notes_old notes_new

-- ---- what may be said

-- a permutation's report, by a regular history of it
pub data OneSays (spec : SpecTree) (blocks : Blocks) (entries : List EntryTree) : List ℕ → List ℕ → Type 0 where
  report : (items : List HistItem) → IsRegular spec blocks entries items → OneSays spec blocks entries (permutation_says spec entries items).text (permutation_says spec entries items).notes

-- what these permutations print where so many of them run, or fewer
pub data RunSays (spec : SpecTree) (blocks : Blocks) (limit : ℕ) (all : List (List EntryTree)) : List ℕ → List ℕ → Type 0 where
  run : (done : ℕ) (said : Said) → done ≤ limit → Prints spec blocks done all said → RunSays spec blocks limit all said.text said.notes

-- what a file prints where so many of its permutations run, or fewer
pub data FileMaySay (bytes : List ℕ) (limit : ℕ) : List ℕ → List ℕ → Type 0 where
  file : (done : ℕ) (said : Said) → done ≤ limit → FileSays bytes done (Ok said) → FileMaySay bytes limit said.text said.notes

-- a free run's text, by a history that it may have
pub data FreeSays (spec : SpecTree) (blocks : Blocks) : List ℕ → List ℕ → Type 0 where
  free : (items : List HistItem) → IsFreeRegular spec blocks items → FreeSays spec blocks (free_text spec items) (free_says spec items).notes

-- the text of a free run of the spec that a file is
pub data FileSaysFreely (bytes text notes : List ℕ) : Type 0 where
  freely : (file : File) → FileIs bytes (Ok file) → FreeSays file.spec file.blocks text notes → FileSaysFreely bytes text notes
