-- To be believed. The blocks of a file, and the statements that they are.
use Rattle.std.specs.Prelude.{◌≡◌, ◌≢◌, List, [], ◌∷◌, ◌++◌, map, flat_map, option_to_list, Result, Ok, Err}
use Rattle.std.specs.Result.{result_map_both}
use Rattle.sql_trees.specs.declared.fault.SqlFault.{SqlFault}
use Rattle.sql_trees.specs.declared.fault.SqlFault.TheVariants.{Memory}
use Rattle.sql_trees.specs.Statements.{StmtTree}
use Rattle.sql_blocks.specs.declared.block.Role.{Role}
use Rattle.sql_blocks.specs.declared.block.Role.TheVariants.{Main, Session}
use Rattle.sql_parser.specs.Texts.{ReadsAs}
use Rattle.session_machine.specs.Machine.{Blocks}
use Rattle.spec_parser.specs.Trees.{PartTree, SpecTree}
use Rattle.spec_parser.specs.Stands.{session_parts}
use Rattle.spec_files.specs.declared.fault.BlockFault.{BlockFault}

-- ---- the blocks in the order of the file

-- a block of the file, what it may say, and where it stands
pub record BlockWithRole : Type 0 where
  pub role : Role
  pub part : PartTree

-- the setups and the teardown of the file, and then the blocks of its sessions
abbrev pub blocks_in : SpecTree → List BlockWithRole
blocks_in spec =
    map (λ part. record { role = Main; part = part }) (spec.setups ++ option_to_list spec.teardown) ++ map (λ part. record { role = Session; part = part }) (flat_map session_parts spec.sessions)

-- ---- what they read as

-- the blocks read as these statements, or the first of them that is no SQL has this fault
pub data BlocksRead : List BlockWithRole → Result Blocks BlockFault → Type 0 where
  none : {answer : Result Blocks BlockFault} → answer ≡ Ok [] → BlocksRead [] answer
  fault : {p : BlockWithRole} {ps : List BlockWithRole} {answer : Result Blocks BlockFault} (f : SqlFault) → f ≢ Memory → ReadsAs p.part.sql p.role (Err f)
      → answer ≡ Err (record { block = p.part.at; fault = f }) → BlocksRead (p ∷ ps) answer
  block : {p : BlockWithRole} {ps : List BlockWithRole} {answer : Result Blocks BlockFault} (stmts : List StmtTree) (others : Result Blocks BlockFault)
      → ReadsAs p.part.sql p.role (Ok stmts) → BlocksRead ps others → answer ≡ result_map_both (λ blocks. stmts ∷ blocks) (λ f. f) others → BlocksRead (p ∷ ps) answer
