use Rattle.std.proofs.Common.{◌≡◌, ◌++◌, drop}
use Rattle.iso_lexer.specs.Devices.{page_text}
use Rattle.report_text.specs.Inner.Permutation.{setups_say}
use Rattle.report_text.proofs.setups.push_setups.Given as goal

abbrev pub invariant-loop-number : goal.invariant-loop-number
invariant-loop-number l = record {
  text : page_text l.page ++ (setups_say l.segments l.count l.number (drop l.number l.sessions)).text ≡ page_text l.fn.page ++ (setups_say l.segments l.count 0 l.sessions).text;
  ending : (setups_say l.segments l.count l.number (drop l.number l.sessions)).ending ≡ (setups_say l.segments l.count 0 l.sessions).ending;
}
