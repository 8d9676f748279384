use Rattle.std.proofs.Common.{◌≡◌, ◌++◌, rules}
use Rattle.std.specs.Option.{option_to_list}
use Rattle.sql_blocks.specs.Blocks.{blocks_of}
use Rattle.spec_parser.specs.Trees.{spec_view}
use Rattle.spec_files.specs.Drafts.{IsDraft}
use Rattle.spec_files.proofs.Drafting.{all_behind, first_comes}
use Rattle.spec_files.proofs.ahead.Ahead.next.Goals as goal

pub returns-clause-next : goal.returns-clause-next
returns-clause-next g c = search (rules, first_comes)

pub returns-clause-drafts : goal.returns-clause-drafts
returns-clause-drafts g c =
    let is : c.fill.new.self.drafts.items ≡ option_to_list c.pop_front.result ++ c.pop_front.new.self.items = search rules in
    all_behind (IsDraft (spec_view c.args.file.now.spec) (blocks_of c.args.file.now.blocks.items)) c.fill.new.self.drafts.items c.pop_front.new.self.items c.pop_front.result is c.in_ok-fill.ensures.drafts
