use Rattle.std.specs.Prelude.{[]}
use Rattle.thread_tests.proofs.telling.tells_the_seats.Goals as goal

pub tells-requires-clause-follows : goal.tells-requires-clause-follows
tells-requires-clause-follows g c κs within = c.in_ok-plan.ensures.follows []
