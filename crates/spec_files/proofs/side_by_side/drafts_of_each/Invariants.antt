use Rattle.std.specs.List.{All}
use Rattle.spec_files.specs.Inner.Coming.{IsComing}
use Rattle.spec_files.proofs.Joining.{Joined}
use Rattle.spec_files.proofs.side_by_side.drafts_of_each.Given as goal

abbrev pub invariant-loop-coming : goal.invariant-loop-coming
invariant-loop-coming g l = (lent : g.row.L.Denot) → All (IsComing g.L.Lent.gives lent) l.fn.all.items → Joined g.L.Lent.gives lent l.fn.all.items l.coming-iterator.rest.items l.drafts.items
