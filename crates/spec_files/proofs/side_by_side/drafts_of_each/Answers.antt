use Rattle.std.proofs.Common.{◌≡◌, length, arith, rules}
use Rattle.spec_files.proofs.Joining.{joined_all, joined_more}
use Rattle.spec_files.proofs.side_by_side.drafts_of_each.Goals as goal

pub loop-coming-preserved : goal.loop-coming-preserved
loop-coming-preserved g c lent all =
    joined_more g.L.Lent.gives lent _ _ _ _ _ _ _ (c.loop-coming.invariant lent all) c.in-Some.ensures.steps.0 c.in_ok-append.ensures.items (c.drafts-more.ensures lent)

pub returns : goal.returns
returns g c lent all =
    let none : length c.loop-coming.coming-iterator.rest.items ≡ 0 = search (rules, arith) in
    joined_all g.L.Lent.gives lent c.args.all.items c.loop-coming.coming-iterator.rest.items c.loop-coming.drafts (c.loop-coming.invariant lent all) none
