use Rattle.std.proofs.Common.{◌≡◌, ◌≤◌, ◌++◌, length, drop}
use Rattle.iso_lexer.specs.Devices.{page_text}
use Rattle.report_text.specs.Replies.{replies_text}
use Rattle.report_text.proofs.replies.push_replies.Given as goal

abbrev pub invariant-loop-item : goal.invariant-loop-item
invariant-loop-item l = record {
  text : page_text l.page ++ replies_text l.session (drop l.item-index l.items) ≡ page_text l.fn.page ++ replies_text l.session l.items;
  long : length (page_text l.fn.page) ≤ length (page_text l.page);
}
