use Rattle.std.proofs.Common.{◌∙◌, sym, ap}
use Rattle.session_machine.specs.Inner.Pieces.{is_dropped}
use Rattle.session_database.proofs.Dropping.{gone_by_note}
use Rattle.session_database.proofs.drops.Drops.has.Goals as goal

pub returns-in-Some : goal.returns-in-Some
returns-in-Some g c =
    let content = g.V.Versions.content c.args.store.now in
    let noted = c.self.invariant c.args.table c.in-Some.by.now (sym c.in-Some.ensures.value) in
    sym (gone_by_note content c.args.own c.self.inside.all.items c.args.table c.in-Some.by.now (sym c.if-does_count.ensures) noted)
    ∙ ap (λ drops. is_dropped content c.args.own drops c.args.table) c.self.view_is
