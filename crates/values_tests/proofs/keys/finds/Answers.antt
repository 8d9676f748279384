use Rattle.std.proofs.Common.{◌≡◌, ap, sym, ◌∙◌, length, arith}
use Rattle.std.proofs.lemmas.List.{length-map}
use Rattle.values_tests.proofs.keys.finds.Goals as goal

pub check-requires : goal.check-requires
check-requires c =
    let long : length c.as_slice-all.result.now ≡ length c.args.keys.now.keys = ap length c.as_slice-all.ensures.value ∙ sym (length-map c.keys.inside.keys.items (λ k. k.items)) ∙ ap (λ t. length t.keys) c.keys.view_is in
    omega (arith, long, c.if-all-gt2.false)
