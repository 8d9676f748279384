use Rattle.std.proofs.Common.{◌≡◌, List, ℕ, length, rules}
use Rattle.sql_values.proofs.Calls.{returns_always}
use Rattle.std.specs.List.{range_with_len}
use Rattle.std.specs.List.Sorted.{IsStableBy, IsSortedBy}
use Rattle.sql_values.proofs.Orders.{stands_before, rows_rank, in_order}
use Rattle.sql_values.proofs.sorting.sorted.Goals as goal

pub returns : goal.returns
returns c =
    let by = c.args.by.now in
    let keys = c.args.keys.now in
    let before = rows_rank by keys in
    let ys : List ℕ = c.sort_by.new.self.items in
    let was : c.in_ok-places.places.items ≡ range_with_len 0 (length keys) = c.in_ok-places.ensures in
    let sorted : IsSortedBy (stands_before by keys) ys = c.in_ok-sort_by.ensures.sorted (stands_before by keys) before (returns_always _ _ (λ f. (f.0.now ≡ by) × (f.1.now ≡ keys)) (λ f a r g called kept. (search rules, (search rules, search rules))) _ (search rules, search rules)) in
    let stable : IsStableBy (stands_before by keys) c.in_ok-places.places.items ys = c.sort_by.ensures.stable (stands_before by keys) before (returns_always _ _ (λ f. (f.0.now ≡ by) × (f.1.now ≡ keys)) (λ f a r g called kept. (search rules, (search rules, search rules))) _ (search rules, search rules)) in
    record {
      each_once = rw was at c.sort_by.ensures.permutation;
      in_order = in_order by keys (length keys) ys sorted (rw was at stable);
    }
