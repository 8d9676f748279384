-- What is printed of a fault of SQL.
use Rattle.std.specs.Prelude.{ℕ, List, codes}
use Rattle.iso_lexer.specs.FaultText.{with_place, fault_text}
use Rattle.sql_trees.specs.declared.fault.SqlFault.{SqlFault}
use Rattle.sql_trees.specs.declared.fault.SqlFault.TheVariants.{Memory, Lex, Syntax, LeftOut, TooDeep, TooMany, DdlInSession, BadColumns}

-- a fault of the text's tokens as the lexer prints it, any other by its number and name, and the byte at which it stands
abbrev pub sql_fault_text : SqlFault → List ℕ
sql_fault_text Memory = codes "Memory"
sql_fault_text (Lex f) = fault_text f
sql_fault_text (Syntax n) = with_place (codes "Q1 Syntax") n
sql_fault_text (LeftOut n) = with_place (codes "Q2 LeftOut") n
sql_fault_text (TooDeep n) = with_place (codes "Q3 TooDeep") n
sql_fault_text (TooMany n) = with_place (codes "Q4 TooMany") n
sql_fault_text (DdlInSession n) = with_place (codes "Q5 DdlInSession") n
sql_fault_text (BadColumns n) = with_place (codes "Q6 BadColumns") n
