use Rattle.unique_keys.specs.Inner.Slots.{kept}
use Rattle.unique_keys.proofs.Answered.{blockers_here, err_more, ok_more, some_block}
use Rattle.unique_keys.proofs.key_index.KeyIndex.blockers.Goals as goal

pub returns-clause-by : goal.returns-clause-by
returns-clause-by g c =
    ok_more c.blockers.result _ _
    (λ by is up. blockers_here (g.V.Versions.content c.args.store.now) c.args.self.now (kept c.self.inside.notes.slots.items) c.args.table c.args.tx c.args.asked.now c.args.columns.now by.items
    c.self.view_is is up)
    c.blockers.ensures.ok

pub returns-clause-memory : goal.returns-clause-memory
returns-clause-memory g c =
    err_more c.blockers.result _ _
    (λ some up. some_block (g.V.Versions.content c.args.store.now) c.args.self.now (kept c.self.inside.notes.slots.items) c.args.table c.args.tx c.args.asked.now c.args.columns.now
    c.self.view_is some up)
    c.blockers.ensures.err
