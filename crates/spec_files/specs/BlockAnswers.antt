-- What reading the blocks answers.
use Rattle.std.specs.Prelude.{◌≡◌, ℕ, ◌<◌, ◌^◌, List, length, Result, Ok, Err}
use Rattle.std.specs.Global.{Vec}
use Rattle.sql_trees.specs.declared.fault.SqlFault.{SqlFault}
use Rattle.sql_trees.specs.declared.fault.SqlFault.TheVariants.{Memory}
use Rattle.sql_parser.specs.Texts.{Parses}
use Rattle.sql_blocks.specs.declared.block.Block.{Block}
use Rattle.sql_blocks.specs.declared.block.Role.{Role}
use Rattle.sql_blocks.specs.Blocks.{block_of, blocks_of}
use Rattle.spec_parser.specs.Trees.{PartTree, StepTree, part_view, spec_view}
use Rattle.spec_files.specs.declared.blocks.PlacedPart.{PlacedPart}
use Rattle.spec_files.specs.declared.fault.RunFault.{RunFault}
use Rattle.spec_files.specs.declared.fault.RunFault.TheVariants as faults
use Rattle.spec_files.specs.declared.file.SpecFile.{SpecFile}
use Rattle.spec_files.specs.Blocks.{BlockWithRole, BlocksRead}
use Rattle.spec_files.specs.Files.{File}

abbrev pub block_as : Role → PartTree → BlockWithRole
block_as role part = record { role = role; part = part }

abbrev pub placed_view : PlacedPart → BlockWithRole
placed_view p = record { role = p.role; part = part_view p.part }

abbrev pub step_part : StepTree → PartTree
step_part s = s.part

-- want of memory, or the fault of the block that begins at this byte
abbrev pub block_fault : ℕ → SqlFault → RunFault
block_fault at Memory = faults.Memory
block_fault at f = faults.Sql (record { block = at; fault = f })

-- this is the fault of the block's text
abbrev pub HasFault : BlockWithRole → SqlFault → Type 0
HasFault p Memory = ⊥
HasFault p f = Parses p.part.sql p.role (Err f)

-- the block says these statements, or has this fault, unless memory was refused
abbrev pub Says : BlockWithRole → Result Block RunFault → Type 0
Says p (Ok b) = Parses p.part.sql p.role (Ok (block_of b))
Says p (Err (faults.Sql f)) = (f.block ≡ p.part.at) × HasFault p f.fault
Says p (Err faults.Memory) = Unit {0}
Says p (Err _) = ⊥

-- the blocks say these statements, or have this fault, unless memory was refused
abbrev pub SayAll : List BlockWithRole → Result (Vec Block) RunFault → Type 0
SayAll ps (Ok bs) = BlocksRead ps (Ok (blocks_of bs.items))
SayAll ps (Err (faults.Sql f)) = BlocksRead ps (Err f)
SayAll ps (Err faults.Memory) = Unit {0}
SayAll ps (Err _) = ⊥

abbrev pub file_view : SpecFile → File
file_view f = record { spec = spec_view f.spec; blocks = blocks_of f.blocks.items }

-- short enough for its tokens to be counted
abbrev pub HasShortText : BlockWithRole → Type 0
HasShortText p = length p.part.sql < 2 ^ 32
