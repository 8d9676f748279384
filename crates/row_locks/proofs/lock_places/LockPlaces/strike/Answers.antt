use Rattle.row_locks.specs.declared.held.Held.{Held}
use Rattle.row_locks.proofs.Noting.{noted_less}
use Rattle.row_locks.proofs.lock_places.LockPlaces.strike.Goals as goal

pub returns : goal.returns
returns c = λ locks apart is are. record {
  rows = noted_less (λ (h : Held). h.row.0) c.args.self.now.by_row c.remove.new.self locks c.args.slot c.args.lock.now are.rows apart is c.remove.ensures.struck c.remove.ensures.others;
  txs = noted_less (λ (h : Held). h.tx.0) c.args.self.now.by_tx c.remove-2.new.self locks c.args.slot c.args.lock.now are.txs apart is c.remove-2.ensures.struck c.remove-2.ensures.others;
}
