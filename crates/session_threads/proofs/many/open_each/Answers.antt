use Rattle.std.proofs.Common.{◌≡◌, ◌∙◌, ◌+◌, ◌++◌, ◌∷◌, ℕ, [], ap, length, rules, arith, subst, sym}
use Rattle.std.proofs.lemmas.List.{length_push}
use Rattle.sql_blocks.specs.Blocks.{blocks_of}
use Rattle.session_machine.specs.declared.event.Mode.TheVariants.{Directed}
use Rattle.session_machine.specs.Engine.{opened}
use Rattle.session_crews.specs.declared.shared.Opened.{Opened}
use Rattle.session_crews.specs.Crews.{EachFrom, IsNew}
use Rattle.session_crews.proofs.Lists.{count_on, each_first, each_none, each_on, each_rest, each_same}
use Rattle.session_threads.specs.declared.driver.ByDriver.{ByDriver}
use Rattle.session_threads.specs.declared.held.Held.{Held}
use Rattle.session_threads.specs.declared.opening.Run.{Run}
use Rattle.session_threads.specs.Crews.{Waits}
use Rattle.session_threads.proofs.many.open_each.Goals as goal

pub loop-run-init : goal.loop-run-init
loop-run-init g c =
    let none : c.in_ok-all.all.items ≡ [] = search rules in
    let left = c.into_iter-run-iterator.result.rest.items in
    let same : left ≡ c.args.runs.items = search rules in
    let waits = Waits g.V.Versions.content g.D.Driver.order_after g.D.Driver.follows g.O.Orderings.orders in
    let at : length c.in_ok-all.all.items ≡ 0 = ap length none in
    record {
      count = search (rules, arith);
      room = search (rules, arith);
      waits = subst (λ n. EachFrom waits n left) (sym at) (each_same waits 0 left c.args.runs.items same c.requires.waits);
      new = each_none (λ place run. IsNew (g.O.Orderings.orders run.place) run.engine.state (g.D.Driver.order_after run.driver.driver) (g.D.Driver.follows run.driver.driver)) 0 c.in_ok-all.all.items none;
      of = each_none (λ place run. run.engine.state ≡ opened (blocks_of c.args.blocks.now) c.args.sessions Directed) 0 c.in_ok-all.all.items none;
    }

pub open_run-requires-clause-waits : goal.open_run-requires-clause-waits
open_run-requires-clause-waits g c =
    let waits = Waits g.V.Versions.content g.D.Driver.order_after g.D.Driver.follows g.O.Orderings.orders in
    let at : length c.loop-run.all.items ≡ c.len-place.result = search (rules, arith) in
    subst (λ n. waits n c.in-Some.run') at
    (each_first waits (length c.loop-run.all.items) c.loop-run.run-iterator.rest.items c.next.new.self.rest.items c.in-Some.run' c.loop-run.invariant.waits c.in-Some.ensures.steps.0)

pub loop-run-preserved : goal.loop-run-preserved
loop-run-preserved g c =
    let first = c.in-Some.ensures.steps.0 in
    let left = c.loop-run.run-iterator.rest.items in
    let rest = c.next.new.self.rest.items in
    let run = c.in-Some.run' in
    let so_far = c.loop-run.all.items in
    let now = c.push.new.self.items in
    let one = c.in_ok-opened.opened in
    let pushed : now ≡ so_far ++ one ∷ [] = search rules in
    let before = c.loop-run.invariant in
    let at : length so_far ≡ c.len-place.result = search (rules, arith) in
    let longer : length now ≡ length so_far + 1 = ap length pushed ∙ length_push so_far one in
    record {
      count = count_on so_far now left rest one run (length c.args.runs.items) before.count first pushed;
      room = search (rules, arith);
      waits = each_rest (Waits g.V.Versions.content g.D.Driver.order_after g.D.Driver.follows g.O.Orderings.orders) (length so_far) (length now) left rest run before.waits first longer;
      new = each_on (λ place run. IsNew (g.O.Orderings.orders run.place) run.engine.state (g.D.Driver.order_after run.driver.driver) (g.D.Driver.follows run.driver.driver)) c.len-place.result so_far now one before.new at c.in_ok-opened.ensures.new pushed;
      of = each_on (λ place run. run.engine.state ≡ opened (blocks_of c.args.blocks.now) c.args.sessions Directed) c.len-place.result so_far now one before.of at c.in_ok-opened.ensures.of.1 pushed;
    }
