use Rattle.std.proofs.Common.{◌≡◌, ◌≤◌, length}
use Rattle.std.specs.Prelude.{IfSome, vec_len, vec_capacity}
use Rattle.std.specs.List.{All}
use Rattle.session_crews.specs.Crews.{EachFrom}
use Rattle.session_crews.proofs.directed.in_order.Given as goal

abbrev pub invariant-loop-place : goal.invariant-loop-place
invariant-loop-place g l = record {
  count : length l.all.items ≡ l.place;
  long : vec_len l.all ≡ l.place;
  room : l.count ≤ vec_capacity l.all;
  left : All (λ slot. IfSome slot (λ kept. g.K.Keeper.keeps l.keeper kept.place kept.item)) l.kept.rest.items;
  done : EachFrom (g.K.Keeper.keeps l.keeper) 0 l.all.items;
}
