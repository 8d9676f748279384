-- Statements in front of those that the other blocks say, and the fault of a block.
use Rattle.std.proofs.Common.{◌≢◌, subst}
use Rattle.std.specs.Prelude.{List, ◌∷◌, Result, Err}
use Rattle.std.specs.Result.{result_map_both}
use Rattle.sql_trees.specs.declared.fault.SqlFault.{SqlFault}
use Rattle.sql_trees.specs.declared.fault.SqlFault.TheVariants.{Memory}
use Rattle.sql_trees.specs.Statements.{StmtTree}
use Rattle.sql_parser.specs.Texts.{ReadsAs}
use Rattle.session_machine.specs.Machine.{Blocks}
use Rattle.spec_files.specs.declared.fault.BlockFault.{BlockFault}
use Rattle.spec_files.specs.Blocks.{BlockWithRole}
use Rattle.spec_files.specs.BlockAnswers.{HasFault}

abbrev pub behind_block : List StmtTree → Result Blocks BlockFault → Result Blocks BlockFault
behind_block stmts others = result_map_both (λ blocks. stmts ∷ blocks) (λ f. f) others

pub has_fault : (p : BlockWithRole) (f : SqlFault) → HasFault p f → ReadsAs p.part.sql p.role (Err f)
has_fault p Memory h = absurd h
has_fault p _ h = h

pub no_memory : (p : BlockWithRole) (f : SqlFault) → HasFault p f → f ≢ Memory
no_memory p f h is = subst (HasFault p) is h
