-- To be believed. What a statement that fails prints, as PostgreSQL does.
use Rattle.std.specs.Prelude.{ℕ, List, ◌++◌, codes}
use Rattle.std.specs.Fmt.{signed_decimal}
use Rattle.sql_values.specs.declared.fault.ValueFault.TheVariants as values
use Rattle.session_machine.specs.declared.fault.StmtFault.{StmtFault}
use Rattle.session_machine.specs.declared.fault.StmtFault.TheVariants as faults

abbrev pub in_quotes : List ℕ → List ℕ
in_quotes name = codes "\"" ++ name ++ codes "\""

abbrev pub column_of_relation : List ℕ → List ℕ → List ℕ
column_of_relation column table = codes "column " ++ in_quotes column ++ codes " of relation " ++ in_quotes table

-- want of memory is in no reply
unfoldable pub fault_text : StmtFault → List ℕ
fault_text (faults.Value values.DivisionByZero) = codes "division by zero"
fault_text (faults.Value values.IntegerRange) = codes "integer out of range"
fault_text (faults.Value values.BigintRange) = codes "bigint out of range"
fault_text (faults.Value values.TypeMismatch) = codes "type mismatch"
fault_text (faults.Value (values.NoColumn name)) = codes "column " ++ in_quotes name ++ codes " does not exist"
fault_text (faults.Value values.Memory) = codes "out of memory"
fault_text (faults.NoColumnOf column table) = column_of_relation column table ++ codes " does not exist"
fault_text (faults.NoTable name) = codes "relation " ++ in_quotes name ++ codes " does not exist"
fault_text (faults.NoTableToDrop name) = codes "table " ++ in_quotes name ++ codes " does not exist"
fault_text (faults.TableExists name) = codes "relation " ++ in_quotes name ++ codes " already exists"
fault_text (faults.NullValue column table) = codes "null value in " ++ column_of_relation column table ++ codes " violates not-null constraint"
fault_text (faults.KeyTaken name) = codes "duplicate key value violates unique constraint " ++ in_quotes name
fault_text faults.TooManyValues = codes "INSERT has more expressions than target columns"
fault_text (faults.NoPosition n) = codes "ORDER BY position " ++ signed_decimal n ++ codes " is not in select list"
fault_text faults.NotSerializable = codes "could not serialize access due to concurrent update"
fault_text faults.Deadlock = codes "deadlock detected"
fault_text (faults.NotFree name) = codes "could not obtain lock on row in relation " ++ in_quotes name
fault_text faults.Aborted = codes "current transaction is aborted, commands ignored until end of transaction block"
fault_text faults.LevelTooLate = codes "SET TRANSACTION ISOLATION LEVEL must be called before any query"
