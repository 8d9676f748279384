use Rattle.spec_files.proofs.Joining.{kept}
use Rattle.spec_files.proofs.side_by_side.begin.Goals as goal

pub spawn_scoped_with-requires-clause-keeps : goal.spawn_scoped_with-requires-clause-keeps
spawn_scoped_with-requires-clause-keeps g c κs within drafts ran =
    kept g.L.Lent.gives c.args.lent.now c.of.result.value c.args.taken c.of-2.result.value drafts c.of.ensures c.of-2.ensures (c.requires.runs.drafts c.args.taken c.args.room drafts ran)
