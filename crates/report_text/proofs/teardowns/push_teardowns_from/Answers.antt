use Rattle.std.proofs.Common.{◌≤◌, sym, ap, ◌∙◌, arith, drop}
use Rattle.std.specs.Prelude.{map}
use Rattle.iso_lexer.specs.Devices.{page_text}
use Rattle.spec_parser.specs.Trees.{session_view}
use Rattle.report_text.specs.Inner.Teardowns.{TeardownsSaid, teardowns_from}
use Rattle.report_text.proofs.Saying.{gone_text}
use Rattle.report_text.proofs.InTurn.{teardowns_gone}
use Rattle.report_text.proofs.teardowns.push_teardowns_from.Goals as goal

pub returns-then-count-number-clause-text : goal.returns-then-count-number-clause-text
returns-then-count-number-clause-text c =
    let over : c.args.count ≤ c.loop-session.number = omega arith in
    let gone = teardowns_gone (map session_view c.args.sessions.now) c.args.segments.now c.args.count c.loop-session.number (drop c.loop-session.session-index c.args.teardowns.now) over in
    let all = teardowns_from (map session_view c.args.sessions.now) c.args.segments.now c.args.count c.args.first c.args.teardowns.now in
    gone_text (page_text c.loop-session.pages.text) _ (page_text c.args.pages.now.text) all.text (ap (λ (t : TeardownsSaid). t.text) gone) c.loop-session.invariant.text

pub returns-then-count-number-clause-notes : goal.returns-then-count-number-clause-notes
returns-then-count-number-clause-notes c =
    let over : c.args.count ≤ c.loop-session.number = omega arith in
    let gone = teardowns_gone (map session_view c.args.sessions.now) c.args.segments.now c.args.count c.loop-session.number (drop c.loop-session.session-index c.args.teardowns.now) over in
    let all = teardowns_from (map session_view c.args.sessions.now) c.args.segments.now c.args.count c.args.first c.args.teardowns.now in
    gone_text (page_text c.loop-session.pages.notes) _ (page_text c.args.pages.now.notes) all.notes (ap (λ (t : TeardownsSaid). t.notes) gone) c.loop-session.invariant.notes

pub returns-then-count-number-clause-next : goal.returns-then-count-number-clause-next
returns-then-count-number-clause-next c =
    let over : c.args.count ≤ c.loop-session.number = omega arith in
    let gone = teardowns_gone (map session_view c.args.sessions.now) c.args.segments.now c.args.count c.loop-session.number (drop c.loop-session.session-index c.args.teardowns.now) over in
    sym (ap (λ (t : TeardownsSaid). t.next) gone) ∙ c.loop-session.invariant.next
