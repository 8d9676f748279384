use Rattle.outcomes.proofs.Redoing.{redone}
use Rattle.outcomes.proofs.replay.redo_one.Goals as goal

pub returns-clause-done : goal.returns-clause-done
returns-clause-done c =
    let done = c.in_ok-perform.ensures.done in
    redone c.args.engine.now c.perform.new.self c.args.items.now c.args.place c.index-items-place.result done.0 c.requires.place c.index-items-place.is c.requires.done c.requires.legal
    c.history.ensures.leads done.1
