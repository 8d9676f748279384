use Rattle.std.proofs.Common.{◌≡◌}
use Rattle.session_database.proofs.keys.learn_keys.Given as goal

-- what is noted stays
abbrev pub invariant-loop-key : goal.invariant-loop-key
invariant-loop-key l = l.index ≡ l.initial.index
