use Rattle.std.proofs.Common.{◌≡◌, length, sym, subst, arith}
use Rattle.std.proofs.lemmas.List.{length-map}
use Rattle.sql_blocks.specs.Blocks.{blocks_of}
use Rattle.session_machine.specs.declared.event.Mode.TheVariants.{Directed}
use Rattle.session_machine.specs.Engine.{IsLegal}
use Rattle.spec_parser.specs.Trees.{session_view, spec_view}
use Rattle.outcomes.proofs.replay.replayed.Goals as goal

pub redo-requires-clause-legal : goal.redo-requires-clause-legal
redo-requires-clause-legal c =
    let same : length (spec_view c.args.spec.now).sessions ≡ c.len-sessions.result = omega (arith, c.len-sessions.ensures, c.args.spec.now.sessions.ok.0, length-map c.args.spec.now.sessions.items session_view) in
    subst (λ e. IsLegal e.blocks e.count e.mode c.args.items.now) (sym c.in_ok-engine.ensures)
    (subst (λ count. IsLegal (blocks_of c.args.blocks.now) count Directed c.args.items.now) same c.requires.legal)
