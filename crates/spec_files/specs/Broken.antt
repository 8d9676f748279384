-- What has gone out where the run of a permutation comes to no end, or launches something else: what is said where fewer permutations may run, and one more is there.
use Rattle.std.specs.Prelude.{◌≡◌, ℕ, ◌<◌, List, Option, Ok}
use Rattle.std.specs.Io.KnownBytes.{Appends}
use Rattle.session_machine.specs.Machine.{Blocks}
use Rattle.spec_parser.specs.Trees.{EntryTree, SpecTree}
use Rattle.report_text.specs.Said.{Said, too_many}
use Rattle.spec_files.specs.Prints.{Prints, FileSays}

-- of a file
pub record FileBroken (bytes : List ℕ) (limit : ℕ) (out_old out_new notes_old notes_new : Option (List ℕ)) : Type 0 where
  pub done : ℕ
  pub said : Said
  pub fewer : done < limit
  pub says_so : FileSays bytes done (Ok said)
  pub one_more : said.ending ≡ too_many
  pub text : Appends out_old out_new said.text
  pub notes : Appends notes_old notes_new said.notes

-- of the permutations of a spec
pub record RunBroken (spec : SpecTree) (blocks : Blocks) (limit : ℕ) (all : List (List EntryTree)) (out_old out_new notes_old notes_new : Option (List ℕ)) : Type 0 where
  pub done : ℕ
  pub said : Said
  pub fewer : done < limit
  pub prints : Prints spec blocks done all said
  pub one_more : said.ending ≡ too_many
  pub text : Appends out_old out_new said.text
  pub notes : Appends notes_old notes_new said.notes
