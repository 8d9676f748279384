use Rattle.std.proofs.Common.{◌≡◌, ◌≤◌, length, map, arith, rules}
use Rattle.spec_files.specs.Drafts.{entries_read}
use Rattle.spec_files.proofs.Drafting.{few_drafts, filled}
use Rattle.spec_files.proofs.ahead.Ahead.fill.Goals as goal

pub returns-clause-same : goal.returns-clause-same
returns-clause-same g c =
    let none : length c.args.self.now.drafts.items ≡ 0 = search (rules, arith) in
    let same : map entries_read c.into.result.items ≡ c.in_ok-taken.taken.items = search rules in
    filled c.args.self.now.drafts.items c.into.result.items c.args.self.now.behind.more c.take_next.new.permutations.more c.in_ok-taken.taken.items none c.in_ok-taken.ensures.next same

pub returns-clause-few : goal.returns-clause-few
returns-clause-few g c =
    let same : map entries_read c.into.result.items ≡ c.in_ok-taken.taken.items = search rules in
    let within : c.min-most.result ≤ c.args.self.now.left = search (rules, arith) in
    few_drafts c.into.result.items c.in_ok-taken.taken.items c.min-most.result c.args.self.now.left same c.in_ok-taken.ensures.few within

pub returns-clause-ahead : goal.returns-clause-ahead
returns-clause-ahead g c few =
    let same : map entries_read c.into.result.items ≡ c.in_ok-taken.taken.items = search rules in
    let within : c.min-most.result ≤ 1024 = search (rules, arith) in
    few_drafts c.into.result.items c.in_ok-taken.taken.items c.min-most.result 1024 same c.in_ok-taken.ensures.few within
