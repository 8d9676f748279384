use Rattle.std.proofs.Common.{◌≡◌, drop, map}
use Rattle.std.specs.Prelude.{flat_map}
use Rattle.sql_trees.specs.Statements.{KeyTree, key_of}
use Rattle.session_queries.specs.Inner.Leaving.{is_key_column}
use Rattle.session_queries.proofs.leaving.is_key_column.Given as goal

abbrev pub invariant-loop-key : goal.invariant-loop-key
invariant-loop-key l =
    is_key_column (flat_map (λ (k : KeyTree). k.columns) (map key_of l.keys)) l.place
    ≡ is_key_column (flat_map (λ (k : KeyTree). k.columns) (map key_of (drop l.key-index l.keys))) l.place
