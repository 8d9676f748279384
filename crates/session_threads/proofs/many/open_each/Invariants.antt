use Rattle.std.specs.Prelude.{◌≡◌, ◌+◌, ◌≤◌, length, vec_len, vec_capacity}
use Rattle.sql_blocks.specs.Blocks.{blocks_of}
use Rattle.session_machine.specs.declared.event.Mode.TheVariants.{Directed}
use Rattle.session_machine.specs.Engine.{opened}
use Rattle.session_crews.specs.Crews.{EachFrom, IsNew}
use Rattle.session_threads.specs.Crews.{Waits}
use Rattle.session_threads.proofs.many.open_each.Given as goal

abbrev pub invariant-loop-run : goal.invariant-loop-run
invariant-loop-run g l = record {
  count : length l.all.items + length l.run-iterator.rest.items ≡ length l.fn.runs.items;
  room : vec_len l.all + length l.run-iterator.rest.items ≤ vec_capacity l.all;
  waits : EachFrom (Waits g.V.Versions.content g.D.Driver.order_after g.D.Driver.follows g.O.Orderings.orders) (length l.all.items) l.run-iterator.rest.items;
  new : EachFrom (λ place run. IsNew (g.O.Orderings.orders run.place) run.engine.state (g.D.Driver.order_after run.driver.driver) (g.D.Driver.follows run.driver.driver)) 0 l.all.items;
  of : EachFrom (λ place run. run.engine.state ≡ opened (blocks_of l.blocks) l.sessions Directed) 0 l.all.items;
}
