use denote.Param.Send.{sendable}
use Rattle.std.proofs.sync.Mutex.TheSendSync.{the_sync as mutex_sync}
use Rattle.session_crews.proofs.FreeSending.{free_shared_send}
use Rattle.session_seats.proofs.free.Runner.TheSendSync.{the_send as runner_send}
use Rattle.session_crews.proofs.free.start_scripts.Goals as goal

-- what a thread is lent may cross to it
pub start_thread-started-requires-send-F : goal.start_thread-started-requires-send-F
start_thread-started-requires-send-F g c κs within = search (sendable, mutex_sync, runner_send, free_shared_send) depth 60 fits 10000
