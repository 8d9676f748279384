use Rattle.std.proofs.Common.{◌≡◌, ◌++◌, drop, map}
use Rattle.spec_parser.specs.Trees.{draft_view}
use Rattle.spec_parser.specs.Inner.Known.{known_view, steps_from}
use Rattle.spec_parser.proofs.known.add_steps.Given as goal

abbrev pub invariant-loop-step : goal.invariant-loop-step
invariant-loop-step l = record {
  counted : l.number ≡ l.step-index;
  told : map known_view l.known.items ++ steps_from l.session l.number (map draft_view (drop l.step-index l.steps)) ≡ map known_view l.fn.known.items ++ steps_from l.session 0 (map draft_view l.steps);
}
