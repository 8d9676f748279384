use Rattle.std.proofs.Common.{◌≡◌, take}
use Rattle.session_core.specs.Engines.{IsOf}
use Rattle.outcomes.proofs.replay.redo.Given as goal

abbrev pub invariant-loop-place : goal.invariant-loop-place
invariant-loop-place l = record {
  done : l.engine.history ≡ take l.place l.items;
  same : IsOf l.engine l.fn.engine.blocks l.fn.engine.count l.fn.engine.mode;
}
