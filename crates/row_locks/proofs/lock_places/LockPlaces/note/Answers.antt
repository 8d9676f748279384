use Rattle.std.proofs.Common.{◌∙◌}
use Rattle.row_locks.proofs.Noting.{as_before}
use Rattle.row_locks.proofs.lock_places.LockPlaces.note.Goals as goal

pub returns-in-Err-clause-err : goal.returns-in-Err-clause-err
returns-in-Err-clause-err c = λ locks are. record {
  rows = λ n. as_before c.args.self.now.by_row c.add.new.self c.remove.new.self c.args.lock.now.row.0 c.args.slot c.in_ok-add.ensures.ok c.add.ensures.others c.remove.ensures.struck c.remove.ensures.others n ∙ are.rows n;
  txs = λ n. c.in-Err.ensures.err n ∙ are.txs n;
}
