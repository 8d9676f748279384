use Rattle.unique_keys.proofs.Places.{shrunk_more}
use Rattle.unique_keys.proofs.known.strike_codes.Goals as goal

pub loop-key-preserved : goal.loop-key-preserved
loop-key-preserved c = λ n. shrunk_more c.args.note.now.row.0 _ _ _ (c.loop-key.invariant n) (c.strike_code.ensures n)
