use Rattle.std.proofs.Common.{◌≡◌, sym, ap, ◌∙◌, Some}
use Rattle.std.specs.Prelude.{map, option_map}
use Rattle.spec_parser.specs.Trees.{session_view}
use Rattle.spec_parser.specs.Numbered.{session_numbered}
use Rattle.report_text.proofs.Pushing.{pushed2}
use Rattle.report_text.proofs.notes.push_whose.Goals as goal

pub returns-in_ok-push-in-Some-clause-text : goal.returns-in_ok-push-in-Some-clause-text
returns-in_ok-push-in-Some-clause-text c =
    let named : session_numbered (map session_view c.args.sessions.now) c.args.session ≡ Some (session_view c.in-Some.session.now) =
    sym c.session_numbered.ensures ∙ ap (option_map (λ x. session_view x.now)) c.in-Some.is in
    rw named (pushed2 _ _ _ _ _ _ c.in_ok-push-in-Some.ensures.bytes c.push_name.ensures)
