use Rattle.std.proofs.Common.{◌≡◌, true, drop, map}
use Rattle.std.specs.Prelude.{flat_map}
use Rattle.sql_trees.specs.Statements.{KeyTree, key_of, set_of}
use Rattle.session_queries.specs.Inner.Leaving.{leaves_each, one_may_grow}
use Rattle.session_queries.proofs.leaving.leaves_each.Given as goal

abbrev pub invariant-loop-column : goal.invariant-loop-column
invariant-loop-column l =
    let places = flat_map (λ (k : KeyTree). k.columns) (map key_of l.keys) in
    record {
      goes_on : leaves_each l.columns l.to (map set_of l.sets) places l.row ≡ leaves_each l.columns (drop l.column-index l.to) (map set_of l.rest) places l.row;
      grows : one_may_grow (drop l.column-index l.to) (map set_of l.rest) places ≡ true → one_may_grow l.to (map set_of l.sets) places ≡ true;
    }
