use Rattle.std.proofs.Common.{◌≡◌, ◌↔◌, drop, map}
use Rattle.sql_equality.proofs.alike.all_alike.Given as goal

abbrev pub invariant-loop-item : goal.invariant-loop-item
invariant-loop-item g l = (map g.T.Alike.seen l.items ≡ map g.T.Alike.seen_other l.others) ↔ (map g.T.Alike.seen (drop l.item-index l.items) ≡ map g.T.Alike.seen_other l.left)
