-- To be believed. What the bytes of a file are: a spec with the statements of its blocks, or why the file is refused.
use Rattle.std.specs.Prelude.{ℕ, ◌<◌, ◌≤◌, List, length, IsUtf8, Result, Ok, Err}
use Rattle.std.specs.Str.Lossy.{utf8_valid_len}
use Rattle.iso_lexer.specs.declared.fault.FaultKind.TheVariants.{FileTooLong}
use Rattle.iso_lexer.specs.declared.limits.TheConstants.{LONGEST_FILE}
use Rattle.session_machine.specs.Machine.{Blocks}
use Rattle.spec_parser.specs.declared.fault.SpecFault.{SpecFault}
use Rattle.spec_parser.specs.Trees.{SpecTree}
use Rattle.spec_parser.specs.SpecText.{SpecReads}
use Rattle.spec_files.specs.declared.fault.BlockFault.{BlockFault}
use Rattle.spec_files.specs.declared.fault.RunFault.{RunFault}
use Rattle.spec_files.specs.declared.fault.RunFault.TheVariants as faults
use Rattle.spec_files.specs.Faults.{spec_fault}
use Rattle.spec_files.specs.Blocks.{blocks_in, BlocksRead}

pub record File : Type 0 where
  pub spec : SpecTree
  pub blocks : Blocks

-- A file that is too long, that is no UTF-8, that is no spec, or of which a block is no SQL, in this order; or it is this spec.
pub data FileIs (bytes : List ℕ) : Result File RunFault → Type 0 where
  longer : LONGEST_FILE < length bytes → FileIs bytes (Err (faults.Lex (record { kind = FileTooLong; at = LONGEST_FILE })))
  no_text : length bytes ≤ LONGEST_FILE → (IsUtf8 bytes → ⊥) → FileIs bytes (Err (faults.NotUtf8 (utf8_valid_len bytes)))
  no_spec : (f : SpecFault) → length bytes ≤ LONGEST_FILE → IsUtf8 bytes → SpecReads bytes (Err f) → FileIs bytes (Err (spec_fault f))
  no_sql : (spec : SpecTree) (f : BlockFault) → length bytes ≤ LONGEST_FILE → IsUtf8 bytes → SpecReads bytes (Ok spec) → BlocksRead (blocks_in spec) (Err f)
      → FileIs bytes (Err (faults.Sql f))
  is_spec : (spec : SpecTree) (blocks : Blocks) → length bytes ≤ LONGEST_FILE → IsUtf8 bytes → SpecReads bytes (Ok spec) → BlocksRead (blocks_in spec) (Ok blocks)
      → FileIs bytes (Ok (record { spec = spec; blocks = blocks }))
