use Rattle.std.proofs.Common.{◌≡◌, drop}
use Rattle.unique_keys.specs.Inner.Codes.{code_from}
use Rattle.unique_keys.proofs.codes.key_code.Given as goal

-- the columns that are left lead from the code so far to the code of all
abbrev pub invariant-loop-column : goal.invariant-loop-column
invariant-loop-column l = code_from l.code (drop l.column-index l.columns) l.row ≡ code_from l.fn.table.0 l.columns l.row
