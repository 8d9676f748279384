use Rattle.session_crews.specs.Crews.{IsNew}
use Rattle.session_crews.proofs.directed.run_crew.Given as goal

abbrev pub ghosts-run_kept : goal.ghosts-run_kept
ghosts-run_kept g a = record {
  waits = λ place run. IsNew (g.O.Orderings.orders run.place) (g.E.Engine.engine run.engine) (g.D.Drives.order_after run.driver) (g.D.Drives.follows run.driver);
  kept = g.K.Keeper.keeps a.keeper.now;
}
