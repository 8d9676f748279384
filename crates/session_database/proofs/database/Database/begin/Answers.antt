use Rattle.session_database.proofs.database.Database.begin.Goals as goal

pub invariant_of-self-2 : goal.invariant_of-self-2
invariant_of-self-2 g c =
    rw c.in_ok-begin.ensures.ok ((c.index_keeps_up.ensures.goes_on.1 c.self.inside.keys (g.V.Versions.content c.self.inside.store) c.self.invariant.0).begins, c.self.invariant.1, c.self.invariant.2)
