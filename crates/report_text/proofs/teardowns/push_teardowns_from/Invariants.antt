use Rattle.std.proofs.Common.{◌≡◌, ◌++◌, drop}
use Rattle.std.specs.Prelude.{map}
use Rattle.iso_lexer.specs.Devices.{page_text}
use Rattle.spec_parser.specs.Trees.{session_view}
use Rattle.report_text.specs.Inner.Teardowns.{teardowns_from}
use Rattle.report_text.proofs.teardowns.push_teardowns_from.Given as goal

abbrev pub invariant-loop-session : goal.invariant-loop-session
invariant-loop-session l =
    let now = teardowns_from (map session_view l.sessions) l.segments l.count l.number (drop l.session-index l.teardowns) in
    let all = teardowns_from (map session_view l.sessions) l.segments l.count l.first l.teardowns in
    record {
      text : page_text l.pages.text ++ now.text ≡ page_text l.fn.pages.text ++ all.text;
      notes : page_text l.pages.notes ++ now.notes ≡ page_text l.fn.pages.notes ++ all.notes;
      next : now.next ≡ all.next;
    }
