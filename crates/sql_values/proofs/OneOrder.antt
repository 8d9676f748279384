-- The sorted order of rows is one.
use Rattle.std.proofs.Common.{◌≡◌, ℕ, ◌<◌, ◌≤◌, false, List, length, refl, sym, ◌∙◌, arith}
use Rattle.std.specs.Prelude.{⊤}
use Rattle.std.specs.List.{range_with_len}
use Rattle.std.specs.Cmp.{IsTotalOrder}
use Rattle.std.specs.Ordering.{nat_cmp, ordering_then, then_cmp, on, is_gt, MatchOrdering}
use Rattle.std.specs.declared.cmp.Ordering.{Ordering}
use Rattle.std.specs.declared.cmp.Ordering.TheVariants.{Less, Equal, Greater}
use Rattle.std.proofs.lemmas.Cmp.{ranked, nat_cmp_total, on_total, then_total}
use Rattle.std.proofs.lemmas.List.Sorted.{sum_by-IsPermutation}
use Rattle.sql_trees.specs.declared.kind.Dir.{Dir}
use Rattle.sql_values.specs.declared.value.Value.{Value}
use Rattle.sql_values.specs.Sorting.{row_order, keys_at, IsSortedOrder}
use Rattle.sql_values.proofs.Orders.{row_total}
use Rattle.sql_values.proofs.Unique.{rises, one_list}

-- places by the keys of their rows, and then by themselves
abbrev place_order : List Dir → List (List Value) → ℕ → ℕ → Ordering
place_order by keys = then_cmp (on (keys_at keys) (row_order 0 by)) nat_cmp

place_total : (by : List Dir) (keys : List (List Value)) → IsTotalOrder (place_order by keys)
place_total by keys = then_total (on_total (keys_at keys) (row_total 0 by)) nat_cmp_total

not_above : (p q : ℕ) (r : Ordering) → r ≡ nat_cmp p q → p ≤ q → is_gt r ≡ false
not_above p q Less e h = refl
not_above p q Equal e h = refl
not_above p q Greater e h = let above : q < p = ranked p q Greater e in absurd (omega arith)

may_stand : (r : Ordering) (p q : ℕ) → MatchOrdering r ⊤ (p ≤ q) ⊥ → is_gt (ordering_then r (nat_cmp p q)) ≡ false
may_stand Less p q h = refl
may_stand Equal p q h = not_above p q (nat_cmp p q) refl h
may_stand Greater p q h = absurd h

tells_numbers : (p q : ℕ) (r : Ordering) → r ≡ nat_cmp p q → r ≡ Equal → p ≡ q
tells_numbers p q r e h = ranked p q Equal (sym h ∙ e)

tells_by : (r : Ordering) (p q : ℕ) → ordering_then r (nat_cmp p q) ≡ Equal → p ≡ q
tells_by Less p q h = absurd (cc)
tells_by Equal p q h = tells_numbers p q (nat_cmp p q) refl h
tells_by Greater p q h = absurd (cc)

pub one_order : (by : List Dir) (keys : List (List Value)) (one other : List ℕ) → IsSortedOrder by keys one → IsSortedOrder by keys other → one ≡ other
one_order by keys one other h k =
    one_list (place_order by keys) (place_total by keys)
    (λ p q. tells_by (row_order 0 by (keys_at keys p) (keys_at keys q)) p q)
    one other
    (rises (place_order by keys) (place_total by keys) one (λ i d less. may_stand _ _ _ (h.in_order i d less)))
    (rises (place_order by keys) (place_total by keys) other (λ i d less. may_stand _ _ _ (k.in_order i d less)))
    (λ f. sum_by-IsPermutation f (range_with_len 0 (length keys)) one h.each_once ∙ sym (sum_by-IsPermutation f (range_with_len 0 (length keys)) other k.each_once))
