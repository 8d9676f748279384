-- What is so of every file.
use Rattle.std.specs.Prelude.{◌≡◌, ℕ, List, Result}
use Rattle.spec_files.specs.declared.fault.RunFault.{RunFault}
use Rattle.report_text.specs.Said.{Said}
use Rattle.spec_files.specs.Files.{File, FileIs}
use Rattle.spec_files.specs.Lists.{FileLists}
use Rattle.spec_files.specs.Prints.{FileSays}

-- The bytes of a file are one spec, or have one refusal.
abbrev pub FilesAreOneThing : Type 0
FilesAreOneThing = (bytes : List ℕ) (x y : Result File RunFault) → FileIs bytes x → FileIs bytes y → x ≡ y

-- So is what a file lists.
abbrev pub FilesListOneThing : Type 0
FilesListOneThing = (bytes : List ℕ) (limit : ℕ) (x y : Result Said RunFault) → FileLists bytes limit x → FileLists bytes limit y → x ≡ y

-- So is what a file says.
abbrev pub FilesSayOneThing : Type 0
FilesSayOneThing = (bytes : List ℕ) (limit : ℕ) (x y : Result Said RunFault) → FileSays bytes limit x → FileSays bytes limit y → x ≡ y
