use Rattle.session_seats.specs.Free.{scripts_in}
use Rattle.session_crews.proofs.free.run_sessions.Given as goal

abbrev pub ghosts-run_scripting : goal.ghosts-run_scripting
ghosts-run_scripting g a = record { start = g.E.Engine.engine a.engine; scripts = scripts_in a.scripts.now }
