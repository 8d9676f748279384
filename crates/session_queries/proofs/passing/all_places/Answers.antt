use Rattle.std.proofs.Common.{◌<◌, [], None, length, map, subst, sym, arith}
use Rattle.std.specs.Prelude.{All}
use Rattle.std.proofs.lemmas.List.Elements.{All-nil, All-push}
use Rattle.session_queries.proofs.Taking.{next_place, passing_rows}
use Rattle.session_queries.proofs.passing.all_places.Goals as goal

pub loop-place-init : goal.loop-place-init
loop-place-init c = record {
  so_far = passing_rows [] None (map (λ row. row.now) c.args.rows.now) c.new-places.result.items c.new-places.ensures.items;
  within = subst (All (λ p. p < length c.args.rows.now)) (sym c.new-places.ensures.items) (All-nil (λ p. p < length c.args.rows.now));
}

pub loop-place-preserved : goal.loop-place-preserved
loop-place-preserved c = record {
  so_far = next_place (λ row. row.now) c.args.rows.now c.loop-place.place c.loop-place.places.items c.push.new.self.items _ (omega arith) c.in_ok-push.ensures.items c.loop-place.invariant.so_far;
  within = subst (All (λ p. p < length c.args.rows.now)) (sym c.in_ok-push.ensures.items)
      (All-push (λ p. p < length c.args.rows.now) c.loop-place.places.items c.loop-place.place c.loop-place.invariant.within (omega arith));
}
