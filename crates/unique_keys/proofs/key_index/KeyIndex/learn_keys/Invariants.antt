use Rattle.std.proofs.Common.{◌≡◌}
use Rattle.unique_keys.proofs.key_index.KeyIndex.learn_keys.Given as goal

-- what is noted stays
abbrev pub invariant-loop-columns : goal.invariant-loop-columns
invariant-loop-columns l = l.self ≡ l.initial.self
