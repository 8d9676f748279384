use Rattle.std.proofs.Common.{◌≡◌, ap, sym, ◌∙◌, length, arith}
use Rattle.std.proofs.lemmas.List.{length-map}
use Rattle.unique_keys.specs.declared.key_index.Found.TheVariants as found
use Rattle.unique_keys.proofs.Answered.{finds_here}
use Rattle.unique_keys.proofs.key_index.KeyIndex.check.Goals as goal

pub returns-in-Held-clause-found : goal.returns-in-Held-clause-found
returns-in-Held-clause-found g c = λ up is_open.
    let long : length c.as_slice-all.result.now ≡ length c.args.keys.now.keys = ap length c.as_slice-all.ensures.value ∙ sym (length-map c.keys.inside.keys.items (λ k. k.items)) ∙ ap (λ t. length t.keys) c.keys.view_is in (
      omega (arith, long, c.loop-key-test.true),
      c.loop-key.invariant up is_open,
      finds_here (g.V.Versions.content c.args.store.now) c.args.tx c.args.except c.args.keys.now c.args.values.now c.values.result.now c.keys.inside.table c.columns_at-columns.result.now (found.Held c.in-Held.by) c.loop-key.key
          (ap (λ t. t.table) c.keys.view_is) c.values.ensures c.columns_at-columns.ensures (rw c.in-Held.is at c.in_ok-find.ensures.found up is_open) (rw c.in-Held.is at c.in_ok-find.ensures.named up),
    )
