use Rattle.std.proofs.Common.{◌≡◌, Some, refl, sym, ◌∙◌, ap, subst, arith}
use Rattle.std.specs.Prelude.{filter, not}
use Rattle.row_versions.specs.declared.write.Fate.TheVariants.{Open, Committed}
use Rattle.row_versions.specs.Log.{Content, fate_of}
use Rattle.row_versions.specs.Members.{same_tx}
use Rattle.row_versions.proofs.Seeing.{count_committed}
use Rattle.row_versions.proofs.OpenTxs.{open-after_end}
use Rattle.row_versions.proofs.list_store.ListStoreVersions.commit.Goals as goal

pub invariant_of-self : goal.invariant_of-self
invariant_of-self c =
    let fates = c.self.inside.fates.items in
    let is_open = subst (λ (d : Content). fate_of d.fates c.args.tx ≡ Some Open) (sym c.self.view_is) c.requires in (
      omega (arith, c.self.invariant.0, count_committed fates c.args.tx.0 c.self.inside.commits is_open),
      c.leave.ensures ∙ ap (filter (λ other. not (same_tx other c.args.tx))) c.self.invariant.1 ∙ open-after_end fates c.args.tx (Committed c.self.inside.commits) is_open refl,
    )
