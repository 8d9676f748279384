-- The byte of the file that a fault names, and the line of the file in which it stands.
use Rattle.std.specs.Prelude.{ℕ, ◌+◌, List, [], ◌++◌, Option, Some, None, codes, decimal, string_bytes}
use Rattle.spec_parser.specs.declared.fault.SpecFault.{SpecFault}
use Rattle.spec_parser.specs.declared.fault.SpecFault.TheVariants as spec_faults
use Rattle.sql_trees.specs.Faults.{fault_place}
use Rattle.sql_trees.specs.declared.fault.SqlFault.{SqlFault}
use Rattle.sql_trees.specs.declared.fault.SqlFault.TheVariants as sql_faults
use Rattle.spec_files.specs.FaultText.{shift_of}
use Rattle.spec_files.specs.declared.fault.BlockFault.{BlockFault}
use Rattle.spec_files.specs.declared.fault.RunFault.{RunFault}
use Rattle.spec_files.specs.declared.fault.RunFault.TheVariants as faults
use Rattle.program_words.specs.Quote.{quoted_line}

abbrev pub spec_place : SpecFault → Option ℕ
spec_place spec_faults.Memory = None
spec_place (spec_faults.Lex f) = Some f.at
spec_place (spec_faults.Expected what at) = Some at
spec_place (spec_faults.DuplicateStep at) = Some at
spec_place (spec_faults.UndefinedStep at) = Some at
spec_place (spec_faults.UndefinedMarker at) = Some at
spec_place (spec_faults.NoticesLeftOut at) = Some at
spec_place (spec_faults.Limit at) = Some at

-- the byte at which a fault of a block stands that begins at this byte; want of memory stands nowhere
abbrev pub place_behind : ℕ → SqlFault → Option ℕ
place_behind block sql_faults.Memory = None
place_behind block f = Some (block + fault_place f)

abbrev pub block_place : BlockFault → Option ℕ
block_place f = place_behind (shift_of f) f.fault

-- the byte of the file that a fault names
abbrev pub place_in_file : RunFault → Option ℕ
place_in_file (faults.Lex f) = Some f.at
place_in_file (faults.Spec f) = spec_place f
place_in_file (faults.Sql f) = block_place f
place_in_file (faults.NotUtf8 at) = Some at
place_in_file _ = None

-- the line of the file in which that byte stands; nothing where none is named
abbrev pub quoted_at : List ℕ → Option ℕ → List ℕ
quoted_at file None = []
quoted_at file (Some at) = quoted_line file at

-- what a fault's line says behind its name: what a setup failed with, and the byte
abbrev pub setup_text : RunFault → List ℕ
setup_text (faults.SetupFailed text) = string_bytes text
setup_text _ = []

abbrev pub place_text : Option ℕ → List ℕ
place_text None = []
place_text (Some at) = codes " at byte " ++ decimal at

abbrev pub line_of : List ℕ → List ℕ
line_of told = codes "isolationtester: " ++ told ++ codes "\n"
