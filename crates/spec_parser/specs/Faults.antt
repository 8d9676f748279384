-- How faults are passed on.
use Rattle.std.specs.Prelude.{ℕ}
use Rattle.iso_lexer.specs.declared.fault.LexFault.{LexFault}
use Rattle.iso_lexer.specs.declared.fault.LexFault.TheVariants as lexer
use Rattle.spec_parser.specs.declared.fault.Stop.{Stop}
use Rattle.spec_parser.specs.declared.fault.Stop.TheVariants as stops
use Rattle.spec_parser.specs.declared.fault.Halt.{Halt}
use Rattle.spec_parser.specs.declared.fault.Halt.TheVariants as halts
use Rattle.spec_parser.specs.declared.fault.SpecFault.{SpecFault}
use Rattle.spec_parser.specs.declared.fault.SpecFault.TheVariants as faults

-- a fault of the tokens is one of the file
abbrev pub lexer_fault : LexFault → SpecFault
lexer_fault lexer.Memory = faults.Memory
lexer_fault (lexer.Fault f) = faults.Lex f

-- a stop before a token is a fault at its place
abbrev pub stopped : Stop → ℕ → SpecFault
stopped (stops.Expected what) at = faults.Expected what at
stopped stops.NoticesLeftOut at = faults.NoticesLeftOut at
stopped stops.OverLimit at = faults.Limit at

abbrev pub halted : Halt → SpecFault
halted halts.Memory = faults.Memory
halted (halts.At stop at) = stopped stop at
