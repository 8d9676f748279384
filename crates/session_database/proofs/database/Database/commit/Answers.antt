use Rattle.std.proofs.Common.{ap}
use Rattle.row_versions.specs.Log.{Content, IsOpen}
use Rattle.session_machine.specs.Tables.{Database}
use Rattle.session_database.proofs.database.Database.commit.Goals as goal

pub invariant_of-self : goal.invariant_of-self
invariant_of-self g c =
    let content : Content = g.V.Versions.content c.self.inside.store in
    let is_open : IsOpen content c.args.tx = rw (ap (λ (d : Database). d.content) c.self.view_is) c.requires in
    rw c.commit.ensures ((c.index_keeps_up.ensures.goes_on.1 c.self.inside.keys content c.self.invariant.0).commits c.args.tx is_open, c.self.invariant.1, c.self.invariant.2)
