-- Where a part may grow, the whole may.
use Rattle.std.proofs.Common.{◌≡◌, refl, Bool, true, false, ◌||◌, ℕ, zero, suc, ◌<◌, List, [], ◌∷◌, length, arith, get_or}
use Rattle.sql_trees.specs.declared.expr.Expr.{Expr}
use Rattle.sql_trees.specs.Trees.{tree_of, trees}
use Rattle.sql_values.specs.Growing.{may_grow, some_may_grow}

pub or_right : (a b : Bool) → b ≡ true → (a || b) ≡ true
or_right true b h = refl
or_right false b h = h

pub or_left : (a b : Bool) → a ≡ true → (a || b) ≡ true
or_left true b h = refl
or_left false b h = absurd cc

-- one of a list
pub some_at : (items : List Expr) (i : ℕ) (d : Expr) → i < length items → may_grow (tree_of (get_or items i d)) ≡ true → some_may_grow (trees items) ≡ true
some_at [] i d l h = absurd (omega arith)
some_at (e ∷ es) zero d l h = or_left (may_grow (tree_of e)) (some_may_grow (trees es)) h
some_at (e ∷ es) (suc i) d l h = or_right (may_grow (tree_of e)) (some_may_grow (trees es)) (some_at es i d (omega arith) h)
