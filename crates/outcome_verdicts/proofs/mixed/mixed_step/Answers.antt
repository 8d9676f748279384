use Rattle.std.proofs.Common.{ℕ, List, subst}
use Rattle.std.specs.Prelude.{Contains}
use Rattle.sql_blocks.specs.Blocks.{blocks_of}
use Rattle.spec_parser.specs.Trees.{spec_view}
use Rattle.outcome_verdicts.proofs.Ends.{mixed_at}
use Rattle.outcome_verdicts.proofs.mixed.mixed_step.Goals as goal

pub returns-in-Some : goal.returns-in-Some
returns-in-Some c =
    mixed_at (spec_view c.args.spec.now) (blocks_of c.args.blocks.now) c.args.transactions.now c.loop-transaction.transaction-index c.transaction-item.result c.in-Some.step
    c.loop-transaction-test.true c.transaction-item.is (subst (λ (steps : List ℕ). Contains steps c.in-Some.step) c.deref.ensures.value c.in-Some.ensures.0) c.in-Some.ensures.1
