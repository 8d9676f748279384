-- Faults of SQL text.
use Rattle.std.specs.Prelude.{ℕ, ◌+◌}
use Rattle.sql_trees.specs.declared.fault.SqlFault.{SqlFault}
use Rattle.sql_trees.specs.declared.fault.SqlFault.TheVariants.{Memory, Lex, Syntax, LeftOut, TooDeep, TooMany, DdlInSession, BadColumns}

-- the byte at which a fault stands
abbrev pub fault_place : SqlFault → ℕ
fault_place Memory = 0
fault_place (Lex f) = f.at
fault_place (Syntax n) = n
fault_place (LeftOut n) = n
fault_place (TooDeep n) = n
fault_place (TooMany n) = n
fault_place (DdlInSession n) = n
fault_place (BadColumns n) = n

-- the same fault behind so many more bytes
abbrev pub moved : ℕ → SqlFault → SqlFault
moved by Memory = Memory
moved by (Lex f) = Lex (record { kind = f.kind; at = f.at + by })
moved by (Syntax n) = Syntax (n + by)
moved by (LeftOut n) = LeftOut (n + by)
moved by (TooDeep n) = TooDeep (n + by)
moved by (TooMany n) = TooMany (n + by)
moved by (DdlInSession n) = DdlInSession (n + by)
moved by (BadColumns n) = BadColumns (n + by)
