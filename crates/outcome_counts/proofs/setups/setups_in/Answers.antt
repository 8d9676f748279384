use Rattle.std.proofs.Common.{arith}
use Rattle.std.proofs.lemmas.List.{length-map}
use Rattle.spec_parser.specs.Trees.{session_view}
use Rattle.outcome_counts.proofs.setups.setups_in.Goals as goal

pub returns-clause-few : goal.returns-clause-few
returns-clause-few c =
    let same = length-map c.args.spec.now.sessions.items session_view in
    omega (arith, same, c.requires.few_sessions, c.session_setups.ensures.few, c.deref.ensures.len, c.len.ensures)
