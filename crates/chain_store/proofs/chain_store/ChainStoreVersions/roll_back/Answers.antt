use Rattle.std.proofs.Common.{◌≡◌, ◌&&◌, not, true, false, Some, length, sym, ◌∙◌, ap, subst, arith}
use Rattle.places.specs.Noted.{has_place, noted}
use Rattle.row_versions.specs.declared.write.Fate.TheVariants.{Open}
use Rattle.row_versions.specs.Log.{Content, fate_of}
use Rattle.chain_store.specs.declared.chain_store.ChainStore.TheInside.{Inside}
use Rattle.chain_store.specs.Inner.Linked.{is_struck}
use Rattle.chain_store.proofs.Linking.{links-after_roll_back, own_within}
use Rattle.chain_store.proofs.chain_store.ChainStoreVersions.roll_back.Goals as goal
use Rattle.chain_store.proofs.chain_store.ChainStoreVersions.roll_back.Goals.{then-not-self, else-not-self}

pub strike-requires-clause-within : goal.strike-requires-clause-within
strike-requires-clause-within c = λ k d l.
    omega (arith, own_within c.self.inside.list c.self.inside.links c.args.tx.0 c.at.result.now (c.self.invariant c.if-not-self.true) c.at.ensures k d l, ap length c.log.ensures)

pub strike-requires-clause-rise : goal.strike-requires-clause-rise
strike-requires-clause-rise c = λ row. ((c.self.invariant c.if-not-self.true).chains row).rise

pub invariant_of-self : goal.invariant_of-self
invariant_of-self c = λ kept.
    let is_open = subst (λ (d : Content). fate_of d.fates c.args.tx ≡ Some Open) (sym c.self.view_is) c.requires in
    elim c.if-not-self.branch [
      | then-not-self w ↦ rw (c.roll_back.ensures, w.self-inside-is)
          (links-after_roll_back c.self.inside.list c.args.tx c.self.inside.links w.strike.new.rows is_open (c.self.invariant w.if-not-self.true) w.strike.ensures.rise
          (λ row place. w.strike.ensures.left row place
          ∙ (λ i. has_place (noted c.self.inside.links.rows row) place && not (is_struck (w.log.ensures i) (w.at.ensures i) row place))))
      | else-not-self w ↦ let wrong : true ≡ false = sym w.if-not-self.false ∙ ap (λ (s : Inside). s.plain) (sym w.self-inside-is) ∙ kept in cc
    ]
