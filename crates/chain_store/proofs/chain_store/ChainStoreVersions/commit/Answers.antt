use Rattle.std.proofs.Common.{◌≡◌, Some, sym, subst}
use Rattle.row_versions.specs.declared.write.Fate.TheVariants.{Open}
use Rattle.row_versions.specs.Log.{Content, after_commit, fate_of}
use Rattle.chain_store.specs.Inner.Linked.{AreLinks}
use Rattle.chain_store.proofs.Fates.{rolled-after_commit}
use Rattle.chain_store.proofs.Linking.{links-fates}
use Rattle.chain_store.proofs.chain_store.ChainStoreVersions.commit.Goals as goal

pub invariant_of-self : goal.invariant_of-self
invariant_of-self c = λ kept.
    let before = c.self.inside.list in
    let is_open = subst (λ (d : Content). fate_of d.fates c.args.tx ≡ Some Open) (sym c.self.view_is) c.requires in
    subst (λ (d : Content). AreLinks d c.self.inside.links) (sym c.commit.ensures)
    (links-fates before (after_commit before c.args.tx).fates c.self.inside.links (λ t. rolled-after_commit before c.args.tx t is_open) (c.self.invariant kept))
