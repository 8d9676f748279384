-- What is printed of a fault.
use Rattle.std.specs.Prelude.{ℕ, List, ◌++◌, codes}
use Rattle.iso_lexer.specs.FaultText.{with_place, fault_text}
use Rattle.spec_parser.specs.declared.fault.What.{What}
use Rattle.spec_parser.specs.declared.fault.What.TheVariants.{Session, Step, Name, Block, Marker, CommaOrClose, Item}
use Rattle.spec_parser.specs.declared.fault.SpecFault.{SpecFault}
use Rattle.spec_parser.specs.declared.fault.SpecFault.TheVariants as faults

abbrev pub what_text : What → List ℕ
what_text Session = codes "Session"
what_text Step = codes "Step"
what_text Name = codes "Name"
what_text Block = codes "Block"
what_text Marker = codes "Marker"
what_text CommaOrClose = codes "CommaOrClose"
what_text Item = codes "Item"

abbrev pub spec_fault_text : SpecFault → List ℕ
spec_fault_text faults.Memory = codes "Memory"
spec_fault_text (faults.Lex fault) = fault_text fault
spec_fault_text (faults.Expected what at) = with_place (codes "S1 Expected " ++ what_text what) at
spec_fault_text (faults.DuplicateStep at) = with_place (codes "S2 DuplicateStep") at
spec_fault_text (faults.UndefinedStep at) = with_place (codes "S3 UndefinedStep") at
spec_fault_text (faults.UndefinedMarker at) = with_place (codes "S4 UndefinedMarker") at
spec_fault_text (faults.NoticesLeftOut at) = with_place (codes "S5 NoticesLeftOut") at
spec_fault_text (faults.Limit at) = with_place (codes "S6 Limit") at
