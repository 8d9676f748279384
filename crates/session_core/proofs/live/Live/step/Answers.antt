use Rattle.std.proofs.Common.{◌≡◌, ◌∙◌, sym, ap}
use Rattle.std.proofs.lemmas.Option.{same_Some}
use Rattle.sql_blocks.specs.Blocks.{blocks_of}
use Rattle.sql_trees.specs.Statements.{stmt_of}
use Rattle.session_machine.specs.declared.session.Session.{Session}
use Rattle.wait_laws.specs.Laws.{stmt_at}
use Rattle.session_core.proofs.Holding.{kept_step}
use Rattle.session_core.proofs.live.Live.step.Goals as goal

pub run-requires-clause-kept : goal.run-requires-clause-kept
run-requires-clause-kept g c s targets at its =
    let given = blocks_of c.args.blocks.now in
    let ok = c.in-Ok.ensures.ok in
    let one : s ≡ ok.0 = same_Some s ok.0 (sym at ∙ ok.1) in
    c.requires.kept.its c.args.session s targets at its (stmt_of c.in-Ok.due.at.stmt.now)
    (ap (stmt_at given) (ap (λ (x : Session). x.place) one ∙ ok.2) ∙ c.in-Ok.ensures.tree)

pub returns-in_ok-run-in-Ok-clause-kept : goal.returns-in_ok-run-in-Ok-clause-kept
returns-in_ok-run-in-Ok-clause-kept g c count reached =
    kept_step (blocks_of c.args.blocks.now) c.args.mode count c.args.self.now c.run.new.self c.args.session c.in-Ok.due.place c.in-Ok.due.at.count (stmt_of c.in-Ok.due.at.stmt.now)
    _ c.args.kept.now c.run.new.kept reached c.requires.sound c.requires.kept c.in-Ok.ensures.ok c.in-Ok.ensures.tree c.in_ok-run-in-Ok.ensures.reply c.in_ok-run-in-Ok.ensures.kept
