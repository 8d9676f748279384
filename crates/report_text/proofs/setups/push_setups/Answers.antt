use Rattle.std.proofs.Common.{◌≡◌, ◌≤◌, ◌++◌, [], ℕ, sym, ap, ◌∙◌, arith, drop}
use Rattle.iso_lexer.specs.Devices.{page_text}
use Rattle.report_text.specs.Said.{Said, says}
use Rattle.report_text.specs.Inner.Permutation.{setups_say}
use Rattle.report_text.proofs.Saying.{setups_gone, gone_text}
use Rattle.report_text.proofs.setups.push_setups.Goals as goal

pub returns-then-count-number-clause-text : goal.returns-then-count-number-clause-text
returns-then-count-number-clause-text c =
    let over : c.count-count.result ≤ c.loop-number.number = omega arith in
    let left = setups_say c.args.segments.now c.count-count.result c.loop-number.number (drop c.loop-number.number c.args.sessions.now) in
    let all = setups_say c.args.segments.now c.count-count.result 0 c.args.sessions.now in
    let gone : left ≡ says [] = setups_gone c.args.segments.now c.count-count.result c.loop-number.number (drop c.loop-number.number c.args.sessions.now) over in
    gone_text (page_text c.loop-number.page) left.text (page_text c.args.page.now) all.text (ap (λ (s : Said). s.text) gone) c.loop-number.invariant.text
    ∙ ap (λ (n : ℕ). page_text c.args.page.now ++ (setups_say c.args.segments.now n 0 c.args.sessions.now).text) c.count-count.ensures

pub returns-then-count-number-clause-ending : goal.returns-then-count-number-clause-ending
returns-then-count-number-clause-ending c =
    let over : c.count-count.result ≤ c.loop-number.number = omega arith in
    sym (ap (λ (s : Said). s.ending) (setups_gone c.args.segments.now c.count-count.result c.loop-number.number (drop c.loop-number.number c.args.sessions.now) over))
    ∙ c.loop-number.invariant.ending
    ∙ ap (λ (n : ℕ). (setups_say c.args.segments.now n 0 c.args.sessions.now).ending) c.count-count.ensures
