use Rattle.unique_keys.proofs.Places.{both_in_row, both_in_tx}
use Rattle.unique_keys.proofs.notes.Notes.written.Goals as goal

pub returns-then-of_row-of_tx : goal.returns-then-of_row-of_tx
returns-then-of_row-of_tx c = both_in_row c.args.self.now c.args.row c.args.tx c.at-of_row.result.now c.requires c.at-of_row.ensures

pub returns-else-of_row-of_tx : goal.returns-else-of_row-of_tx
returns-else-of_row-of_tx c = both_in_tx c.args.self.now c.args.row c.args.tx c.at-of_tx.result.now c.requires c.at-of_tx.ensures
