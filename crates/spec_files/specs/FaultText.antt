-- What is printed of a fault.
use Rattle.std.specs.Prelude.{ℕ, ◌-◌, nat_le, if◌then◌else◌, List, ◌++◌, codes, string_bytes}
use Rattle.iso_lexer.specs.FaultText.{with_place, fault_text as token_fault_text}
use Rattle.spec_parser.specs.FaultText.{spec_fault_text}
use Rattle.sql_trees.specs.Faults.{fault_place, moved}
use Rattle.sql_trees.specs.FaultText.{sql_fault_text}
use Rattle.spec_files.specs.declared.fault.BlockFault.{BlockFault}
use Rattle.spec_files.specs.declared.fault.RunFault.{RunFault}
use Rattle.spec_files.specs.declared.fault.RunFault.TheVariants as faults

-- the byte at which the block begins, of a block in a file
abbrev pub shift_of : BlockFault → ℕ
shift_of f = if nat_le (fault_place f.fault) (18446744073709551615 - f.block) then f.block else 0

-- the fault with its byte in the file
abbrev pub block_fault_text : BlockFault → List ℕ
block_fault_text f = sql_fault_text (moved (shift_of f) f.fault)

abbrev pub fault_text : RunFault → List ℕ
fault_text faults.Read = codes "R1 Read"
fault_text faults.Write = codes "R2 Write"
fault_text (faults.Lex f) = token_fault_text f
fault_text (faults.Spec f) = spec_fault_text f
fault_text (faults.Sql f) = block_fault_text f
fault_text (faults.SetupFailed text) = codes "R6 SetupFailed: " ++ string_bytes text
fault_text faults.SetupWaits = codes "R7 SetupWaits"
fault_text faults.ScheduleBroken = codes "R8 ScheduleBroken"
fault_text faults.TooManyPermutations = codes "R9 TooManyPermutations"
fault_text (faults.Threads f) = codes "R10 Threads"
fault_text (faults.NotUtf8 at) = with_place (codes "R11 NotUtf8") at
fault_text faults.Memory = codes "Memory"

-- the line that the program prints of it
abbrev pub fault_line : RunFault → List ℕ
fault_line e = codes "isolationtester: " ++ fault_text e ++ codes "\n"
