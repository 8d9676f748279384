-- Blocks as the machine has them.
use Rattle.std.proofs.Common.{◌≡◌, ℕ, List, map, [], refl}
use Rattle.std.specs.Prelude.{Some, None, slice_get}
use Rattle.std.proofs.lemmas.Option.{slice_get-map}
use Rattle.sql_trees.specs.Statements.{stmt_of}
use Rattle.sql_blocks.specs.declared.block.Block.{Block}
use Rattle.sql_blocks.specs.Blocks.{block_of, blocks_of}
use Rattle.session_machine.specs.Machine.{stmts_of}

-- the statements of a block that is there
pub stmts_are : (bs : List Block) (k : ℕ) (b : Block) → slice_get bs k ≡ Some b → stmts_of (blocks_of bs) k ≡ map stmt_of b.stmts
stmts_are bs k b h = rw (slice_get-map block_of bs k, h) refl

-- a block that isn't there has none
pub no_stmts : (bs : List Block) (k : ℕ) → slice_get bs k ≡ None → stmts_of (blocks_of bs) k ≡ []
no_stmts bs k h = rw (slice_get-map block_of bs k, h) refl
