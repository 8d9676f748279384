-- Steps that go on behind the end of a transaction.
use Rattle.std.proofs.Common.{◌≡◌, ◌-◌, ◌<◌, ◌∙◌, ℕ, true, List, length, map, get_or, take, refl, sym, ap, arith}
use Rattle.std.specs.Prelude.{Contains}
use Rattle.std.specs.List.{list_any}
use Rattle.std.proofs.lemmas.List.{get_or-map, length-map, take-map}
use Rattle.sql_trees.specs.declared.stmt.Stmt.{Stmt}
use Rattle.sql_trees.specs.Statements.{stmt_of}
use Rattle.session_machine.specs.Machine.{Blocks}
use Rattle.spec_parser.specs.Trees.{SpecTree}
use Rattle.outcome_verdicts.specs.declared.transactions.Transaction.{Transaction}
use Rattle.outcome_verdicts.specs.Transactions.{transaction_view}
use Rattle.outcome_verdicts.specs.Failures.{IsMixed, goes_on, is_end, stmts_go_on}

-- all but the last
pub front_ends : (stmts : List Stmt) (n : ℕ) → n ≡ length stmts - 1 → list_any is_end (map stmt_of (take n stmts)) ≡ stmts_go_on (map stmt_of stmts)
front_ends stmts n is =
    ap (list_any is_end) (sym (take-map stmt_of n stmts))
    ∙ ap (λ (m : ℕ). list_any is_end (take m (map stmt_of stmts))) (is ∙ ap (λ (m : ℕ). m - 1) (sym (length-map stmts stmt_of)))

-- a step of the transaction at this place
pub mixed_at : (spec : SpecTree) (blocks : Blocks) (ts : List Transaction) (i : ℕ) (t : Transaction) (step : ℕ) → i < length ts → t ≡ get_or ts i t → Contains t.steps.items step
    → goes_on spec blocks t.session step ≡ true → IsMixed spec blocks (map transaction_view ts) t.session step
mixed_at spec blocks ts i t step within is among goes =
    let also : i < length (map transaction_view ts) = omega (arith, length-map ts transaction_view) in
    (transaction_view t, (i, also, get_or-map transaction_view ts i t (transaction_view t) within ∙ ap transaction_view (sym is)), refl, among, goes)
