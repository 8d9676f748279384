use Rattle.std.proofs.Common.{◌≡◌, ◌∙◌, ap, subst, true, ◌&&◌, get_or, take}
use Rattle.std.proofs.lemmas.List.Folds.{list_all_more}
use Rattle.unique_keys.specs.Inner.Listing.{is_coded}
use Rattle.unique_keys.proofs.Places.{all_coded_on}
use Rattle.unique_keys.proofs.known.add_codes.Goals as goal

pub loop-key-preserved : goal.loop-key-preserved
loop-key-preserved c =
    let test = is_coded c.args.note.now c.add_code.new.by_code in
    let i = c.loop-key.key-index in
    let before = all_coded_on c.args.note.now c.loop-key.by_code c.add_code.new.by_code (c.add_code.ensures.kept c.args.note.now.row.0) (take i c.args.known.now) c.loop-key.invariant.2 in (
      λ row code h. c.add_code.ensures.kept row code (c.loop-key.invariant.0 row code h),
      λ once. c.add_code.ensures.once (c.loop-key.invariant.1 once),
      list_all_more test c.args.known.now i c.key-item.result c.loop-key-test.true ∙ ap (λ v. v && test (get_or c.args.known.now i c.key-item.result)) before
          ∙ subst (λ k. test k ≡ true) c.key-item.is c.in_ok-add_code.ensures.coded,
    )
