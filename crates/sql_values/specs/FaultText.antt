-- What is printed of a fault of a value.
use Rattle.std.specs.Prelude.{ℕ, List, codes}
use Rattle.sql_values.specs.declared.fault.ValueFault.{ValueFault}
use Rattle.sql_values.specs.declared.fault.ValueFault.TheVariants.{DivisionByZero, IntegerRange, BigintRange, TypeMismatch, NoColumn, Memory}

-- its number and its name; which column is missing isn't said
abbrev pub value_fault_text : ValueFault → List ℕ
value_fault_text DivisionByZero = codes "V1 DivisionByZero"
value_fault_text IntegerRange = codes "V2 IntegerRange"
value_fault_text BigintRange = codes "V3 BigintRange"
value_fault_text TypeMismatch = codes "V4 TypeMismatch"
value_fault_text (NoColumn name) = codes "V5 NoColumn"
value_fault_text Memory = codes "Memory"
