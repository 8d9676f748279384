use denote.Param.Send.{sendable}
use Rattle.session_threads.proofs.Sending.{held_send}
use Rattle.session_threads.proofs.many.serve_each.Goals as goal

-- the engines may cross to the threads
pub run_crew-requires-send-E : goal.run_crew-requires-send-E
run_crew-requires-send-E g c κs within = search (sendable, held_send) depth 60 fits 10000
