use Rattle.std.proofs.Common.{◌≡◌, length, map}
use Rattle.sql_trees.specs.Inner.Spellings.{first_spelled}
use Rattle.sql_trees.proofs.word.first_spelled.Given as goal

abbrev pub invariant-loop-table : goal.invariant-loop-table
invariant-loop-table l = first_spelled (map (λ k. (k.0.now, k.1)) l.table) l.text ≡ first_spelled (map (λ k. (k.0.now, k.1)) l.initial.table) l.text

abbrev pub decreases-loop-table : goal.decreases-loop-table
decreases-loop-table l = length l.table
