use denote.Param.Send.{sendable}
use Rattle.std.proofs.Common.{subst, sym}
use Rattle.sql_blocks.specs.Blocks.{blocks_of}
use Rattle.session_seats.specs.Orders.{Orders}
use Rattle.session_threads.specs.Crews.{CameBy}
use Rattle.session_threads.proofs.Sending.{held_send}
use Rattle.session_threads.proofs.directed.run_own.Goals as goal

-- the engine may cross to the threads
pub run_one-requires-send-E : goal.run_one-requires-send-E
run_one-requires-send-E g c κs within = search (sendable, held_send) depth 60 fits 10000

pub returns : goal.returns
returns g c =
    subst (λ (orders : Orders). CameBy (blocks_of c.args.blocks.now) c.args.sessions orders c.close_run.result) (sym (c.requires.orders 0))
    (record { ran = c.close_run.ensures.ran; stopped = c.close_run.ensures.stopped })
