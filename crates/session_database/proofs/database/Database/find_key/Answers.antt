use Rattle.std.proofs.Common.{ap}
use Rattle.row_versions.specs.Log.{IsOpen}
use Rattle.session_machine.specs.Tables.{Database}
use Rattle.session_machine.specs.Rows.{Work}
use Rattle.session_database.proofs.Erring.{on_any_err}
use Rattle.session_database.proofs.database.Database.find_key.Goals as goal

pub returns-clause-found : goal.returns-clause-found
returns-clause-found g c =
    let is_open : IsOpen (g.V.Versions.content c.self.inside.store) c.work.inside.by.tx =
    rw (ap (λ (d : Database). d.content) c.self.view_is, ap (λ (x : Work). x.t.tx) c.work.view_is) c.requires.opened in
    rw (← c.self.view_is, ← c.work.view_is, ← c.as_slice-columns.ensures.value, ← c.values-values.ensures) (c.in_ok-found.ensures.found c.self.invariant.0.up_to_date is_open)

pub returns-clause-named : goal.returns-clause-named
returns-clause-named g c =
    rw (← c.self.view_is, ← c.work.view_is, ← c.as_slice-columns.ensures.value, ← c.values-values.ensures) (c.in_ok-found.ensures.named c.self.invariant.0.up_to_date)

pub returns-in_err-found-clause-memory : goal.returns-in_err-found-clause-memory
returns-in_err-found-clause-memory g c =
    on_any_err c.from_residual.result
    (rw (← c.self.view_is, ← c.work.view_is, ← c.as_slice-columns.ensures.value, ← c.values-values.ensures) (c.in_err-found.ensures.memory c.self.invariant.0.up_to_date))
