-- What a refusal says of the sink, and what is printed of it.
use Rattle.std.specs.Prelude.{◌≡◌, ℕ, Bool, true, List, codes, Result, Ok, Err}
use Rattle.result_tables.specs.declared.fault.TableFault.{TableFault}
use Rattle.result_tables.specs.declared.fault.TableFault.TheVariants.{Memory, Write}

-- Write is answered exactly where the sink has failed in the call; else its mark is the one from before
abbrev pub TellsFailure : {A : Type 0} → Bool → Bool → Result A TableFault → Type 0
TellsFailure old new (Ok x) = new ≡ old
TellsFailure old new (Err Memory) = new ≡ old
TellsFailure old new (Err Write) = new ≡ true

abbrev pub table_fault_text : TableFault → List ℕ
table_fault_text Memory = codes "Memory"
table_fault_text Write = codes "P1 Write"
