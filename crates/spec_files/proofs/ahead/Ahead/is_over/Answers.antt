use Rattle.std.proofs.Common.{◌<◌, length, rules, arith}
use Rattle.spec_files.proofs.Drafting.{draft_left, on_false}
use Rattle.spec_files.proofs.ahead.Ahead.is_over.Goals as goal

pub returns-else-is_empty-clause-more : goal.returns-else-is_empty-clause-more
returns-else-is_empty-clause-more c =
    let some : 0 < length c.args.self.now.drafts.items = search (rules, arith) in
    on_false c.is_empty.result _ (draft_left c.args.self.now.drafts.items c.args.self.now.behind.more some)
