use Rattle.std.proofs.Common.{◌≡◌, drop, map}
use Rattle.std.specs.List.{list_any}
use Rattle.sql_trees.specs.Statements.{stmt_of}
use Rattle.session_machine.specs.Running.{is_definition}
use Rattle.session_core.proofs.launch.has_definition.Given as goal

-- of the statements that are left the answer is that of all
abbrev pub invariant-loop-stmt : goal.invariant-loop-stmt
invariant-loop-stmt l = list_any is_definition (map stmt_of (drop l.stmt-index l.stmts)) ≡ list_any is_definition (map stmt_of l.stmts)
