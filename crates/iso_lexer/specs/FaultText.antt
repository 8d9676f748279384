-- What is printed of a fault.
use Rattle.std.specs.Prelude.{ℕ, List, ◌++◌, codes, decimal}
use Rattle.iso_lexer.specs.declared.fault.FaultKind.{FaultKind}
use Rattle.iso_lexer.specs.declared.fault.FaultKind.TheVariants.{UnterminatedBlock, UnterminatedName, NewlineInName, UnexpectedByte, FileTooLong}
use Rattle.iso_lexer.specs.declared.fault.FaultKind.TheVariants.{UnterminatedString, UnterminatedComment, NumberTooLarge}
use Rattle.iso_lexer.specs.declared.fault.Fault.{Fault}

abbrev pub kind_text : FaultKind → List ℕ
kind_text UnterminatedBlock = codes "L1 UnterminatedBlock"
kind_text UnterminatedName = codes "L2 UnterminatedName"
kind_text NewlineInName = codes "L3 NewlineInName"
kind_text UnexpectedByte = codes "L4 UnexpectedByte"
kind_text FileTooLong = codes "L5 FileTooLong"
kind_text UnterminatedString = codes "L6 UnterminatedString"
kind_text UnterminatedComment = codes "L7 UnterminatedComment"
kind_text NumberTooLarge = codes "L8 NumberTooLarge"

-- what a fault is, and the byte at which it stands
abbrev pub with_place : List ℕ → ℕ → List ℕ
with_place what at = what ++ codes " at byte " ++ decimal at

abbrev pub fault_text : Fault → List ℕ
fault_text f = with_place (kind_text f.kind) f.at
