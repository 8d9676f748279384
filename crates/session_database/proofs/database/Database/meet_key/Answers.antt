use Rattle.session_database.proofs.database.Database.meet_key.Goals as goal

pub held_by_others-requires : goal.held_by_others-requires
held_by_others-requires g c = let named = rw c.in-Held.is at c.in_ok-find_key.ensures.named in rw c.deref.ensures named.each
