-- An engine that a run led to a quiet state.
use Rattle.std.specs.Prelude.{IsTrue}
use Rattle.session_machine.specs.Machine.{Machine, opening, is_quiet, Run}
use Rattle.session_machine.specs.Engine.{Engine}

pub record IsAtRest (e : Engine) : Type 0 where
  pub state : Machine
  pub run : Run e.blocks e.mode (opening e.count) e.history state
  pub quiet : IsTrue (is_quiet state)
