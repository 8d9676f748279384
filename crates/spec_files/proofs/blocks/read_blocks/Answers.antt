use Rattle.std.proofs.lemmas.Result.{err_from_is_err_and}
use Rattle.std.proofs.Common.{sym, subst}
use Rattle.std.specs.Prelude.{map}
use Rattle.sql_blocks.specs.Blocks.{blocks_of}
use Rattle.spec_files.specs.BlockAnswers.{placed_view}
use Rattle.spec_files.proofs.Reading.{SoFar, starts, block_there, fault_there, end_there, short_there}
use Rattle.spec_files.proofs.blocks.read_blocks.Goals as goal

pub loop-placed-init : goal.loop-placed-init
loop-placed-init c = subst (λ bs. SoFar (map placed_view c.args.parts.now) (blocks_of bs) 0) (sym c.new-blocks.ensures.items) (starts (map placed_view c.args.parts.now))

pub read_block-requires : goal.read_block-requires
read_block-requires c = short_there c.args.parts.now c.loop-placed.placed-index c.loop-placed-test.true c.requires

pub loop-placed-preserved : goal.loop-placed-preserved
loop-placed-preserved c =
    block_there c.args.parts.now c.loop-placed.blocks.items c.push.new.self.items c.in_ok-block.block c.loop-placed.placed-index c.loop-placed-test.true c.in_ok-push.ensures.items c.in_ok-block.ensures c.loop-placed.invariant

pub returns-in_err-block : goal.returns-in_err-block
returns-in_err-block c =
    let p = err_from_is_err_and c.from_residual.result c.from_residual.ensures.1 in
    rw (p.1, p.2) (fault_there c.args.parts.now c.loop-placed.blocks.items c.loop-placed.placed-index c.in_err-block.field-0.0 c.loop-placed-test.true c.in_err-block.ensures c.loop-placed.invariant)

pub returns : goal.returns
returns c = end_there c.args.parts.now c.loop-placed.blocks.items c.loop-placed.placed-index c.loop-placed-test.false c.loop-placed.invariant
