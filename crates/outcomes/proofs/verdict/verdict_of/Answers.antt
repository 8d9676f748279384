use Rattle.std.proofs.Common.{◌∙◌, map}
use Rattle.std.specs.Prelude.{string_bytes}
use Rattle.sql_blocks.specs.Blocks.{blocks_of}
use Rattle.spec_parser.specs.Trees.{spec_view}
use Rattle.outcome_verdicts.specs.Transactions.{list_view}
use Rattle.outcome_verdicts.specs.Failures.{rest_of}
use Rattle.outcome_verdicts.proofs.Judging.{none_has, one_has}
use Rattle.outcomes.specs.Judging.{IsSerialOrder}
use Rattle.outcomes.proofs.verdict.verdict_of.Goals as goal

pub verdict_of_rest-requires-clause-none : goal.verdict_of_rest-requires-clause-none
verdict_of_rest-requires-clause-none c =
    let spec = spec_view c.args.spec.now in
    let blocks = blocks_of c.args.blocks.now in
    let lists = map list_view c.args.lists.now in
    let has = IsSerialOrder spec blocks (map string_bytes c.args.names.now) in
    none_has spec blocks lists (has lists) (has (rest_of spec c.args.outcome.now lists)) c.args.outcome.now c.args.orders.now c.requires.orders c.in-None.ensures

pub returns-in_ok-sessions-in-Some : goal.returns-in_ok-sessions-in-Some
returns-in_ok-sessions-in-Some c =
    let spec = spec_view c.args.spec.now in
    let blocks = blocks_of c.args.blocks.now in
    let lists = map list_view c.args.lists.now in
    let has = IsSerialOrder spec blocks (map string_bytes c.args.names.now) in
    one_has spec blocks lists (has lists) (has (rest_of spec c.args.outcome.now lists)) c.args.outcome.now c.args.orders.now c.in_ok-sessions-in-Some.sessions
    c.in-Some.order.now.sessions.items c.requires.orders (c.in_ok-sessions-in-Some.ensures.items ∙ c.as_slice.ensures.value) c.in-Some.ensures
