use Rattle.std.proofs.Common.{◌≡◌, ◌++◌, ◌∷◌, [], rules, arith}
use Rattle.std.specs.Prelude.{IfSome}
use Rattle.session_crews.proofs.Lists.{each_on, next_of}
use Rattle.session_crews.proofs.directed.in_order.Goals as goal

pub item_at-requires-clause-kept : goal.item_at-requires-clause-kept
item_at-requires-clause-kept g c =
    (next_of (λ slot. IfSome slot (λ kept. g.K.Keeper.keeps c.args.keeper.now kept.place kept.item)) c.loop-place.kept.rest.items c.next.new.self.rest.items c.next.result _ _
    c.loop-place.invariant.left c.next.ensures.cases (λ none. search (rules, arith))).0

pub loop-place-preserved : goal.loop-place-preserved
loop-place-preserved g c =
    let so_far = c.loop-place.all.items in
    let now = c.push.new.self.items in
    let pushed : now ≡ so_far ++ c.item_at.result ∷ [] = search rules in
    record {
      count = search (rules, arith);
      long = search (rules, arith);
      room = search (rules, arith);
      left = (next_of (λ slot. IfSome slot (λ kept. g.K.Keeper.keeps c.args.keeper.now kept.place kept.item)) c.loop-place.kept.rest.items c.next.new.self.rest.items c.next.result _ _
          c.loop-place.invariant.left c.next.ensures.cases (λ none. search (rules, arith))).1;
      done = each_on (g.K.Keeper.keeps c.args.keeper.now) c.loop-place.place so_far now c.item_at.result c.loop-place.invariant.done c.loop-place.invariant.count c.item_at.ensures pushed;
    }
