use Rattle.session_database.proofs.database.Database.holders.Goals as goal

pub returns : goal.returns
returns g c =
    rw (← c.self.view_is, ← c.asked.view_is, ← c.as_slice-columns.ensures.value, ← c.values-values.ensures) (c.in_ok-found.ensures.by c.self.invariant.0.up_to_date).each
