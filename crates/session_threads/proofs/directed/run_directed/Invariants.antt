use Rattle.session_threads.proofs.directed.run_directed.Given as goal

abbrev pub ghosts-run_own : goal.ghosts-run_own
ghosts-run_own g a = record { orders = λ place. g.D.Driver.order_after a.driver }
