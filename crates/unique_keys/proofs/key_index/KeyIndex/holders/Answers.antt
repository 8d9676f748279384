use Rattle.std.specs.Prelude.{◌≢◌, []}
use Rattle.std.proofs.Common.{ap, subst}
use Rattle.unique_keys.specs.Members.{EachOnce}
use Rattle.unique_keys.proofs.Answered.{blockers_lent, err_more, ok_more}
use Rattle.unique_keys.proofs.key_index.KeyIndex.holders.Goals as goal

pub returns-clause-by : goal.returns-clause-by
returns-clause-by g c =
    ok_more c.blockers.result _ _
    (λ by once up. subst (λ v. EachOnce v by.items)
    (blockers_lent (g.V.Versions.content c.args.store.now) c.args.tx c.args.keys.now c.args.values.now c.values.result.now c.keys.inside.table c.columns_at-columns.result.now c.args.key
    (ap (λ t. t.table) c.keys.view_is) c.values.ensures c.columns_at-columns.ensures) (once up))
    c.blockers.ensures.by

pub returns-clause-memory : goal.returns-clause-memory
returns-clause-memory g c =
    err_more c.blockers.result _ _
    (λ some up. subst (λ v. v ≢ [])
    (blockers_lent (g.V.Versions.content c.args.store.now) c.args.tx c.args.keys.now c.args.values.now c.values.result.now c.keys.inside.table c.columns_at-columns.result.now c.args.key
    (ap (λ t. t.table) c.keys.view_is) c.values.ensures c.columns_at-columns.ensures) (some up))
    c.blockers.ensures.memory
