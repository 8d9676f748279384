-- How many segments a history has.
use Rattle.std.proofs.Common.{◌≤◌, List, [], ◌∷◌, length, Bool, true, false, arith}
use Rattle.std.specs.Prelude.{if◌then◌else◌}
use Rattle.std.specs.List.{filter}
use Rattle.session_machine.specs.declared.reply.HistItem.{HistItem}
use Rattle.report_lines.specs.Starts.{is_order}
use Rattle.report_lines.specs.Due.{orders}

kept : (b : Bool) (x : HistItem) (xs ys : List HistItem) → length ys ≤ length xs → length (if b then x ∷ ys else ys) ≤ length (x ∷ xs)
kept true x xs ys h = omega arith
kept false x xs ys h = omega arith

-- at most one for each item
pub orders-le : (items : List HistItem) → orders items ≤ length items
orders-le [] = omega arith
orders-le (x ∷ xs) = kept (is_order x.event) x xs (filter (λ item. is_order item.event) xs) (orders-le xs)
