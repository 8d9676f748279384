use Rattle.std.proofs.Common.{◌≡◌, ℕ, false, true, not, length, sym, ◌∙◌, ap, subst}
use Rattle.std.proofs.lemmas.Bool.{not-false}
use Rattle.row_versions.specs.declared.write.Write.{Write}
use Rattle.chain_store.specs.Inner.Linked.{IsNoted}
use Rattle.chain_store.proofs.Linking.{links-after_step, ok_then}
use Rattle.chain_store.proofs.chain_store.ChainStoreVersions.write.Goals as goal
use Rattle.chain_store.proofs.chain_store.ChainStoreVersions.write.Goals.{then-is_linked, else-is_linked, then-not-self, else-not-self}

pub invariant_of-self-2 : goal.invariant_of-self-2
invariant_of-self-2 c = λ kept.
    elim c.if-is_linked.branch [
      | then-is_linked w ↦ elim c.if-not-self.branch [
        | then-not-self v ↦
            let before = c.self.inside in
            let write : Write = record { tx = c.args.tx; command = c.args.command; table = c.args.table; row = c.in_ok-made.made; values = c.args.values } in
            let linked = sym v.is_linked-is ∙ w.if-is_linked.true in
            let noted = ok_then w.note.result _ w.note.ensures (sym w.is_ok-is_noted.ensures.value ∙ sym w.is_noted-is ∙ not-false _ kept) in
            rw (w.self-inside-is, c.in_ok-made.ensures.ok)
            (links-after_step before.list c.args.row write w.is_none.result before.links w.note.new.self (c.self.invariant v.if-not-self.true) (subst (λ (n : ℕ). IsNoted before.links n c.args.tx c.args.table c.in_ok-made.made w.is_none.result w.note.new.self) (ap length c.log-place.ensures) noted)
            (v.can_note-is_linked.ensures.stands linked) w.is_none.ensures c.in_ok-made.ensures.row (v.can_note-is_linked.ensures.named linked))
        | else-not-self v ↦ let wrong : true ≡ false = sym w.if-is_linked.true ∙ v.is_linked-is ∙ ap not v.if-not-self.false in cc
      ]
      | else-is_linked w ↦ let wrong : true ≡ false = sym (not-false _ kept) ∙ w.is_noted-is ∙ w.if-is_linked.false in cc
    ]
