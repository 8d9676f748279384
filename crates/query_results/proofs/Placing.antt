-- A row keeps its length where values are placed in it.
use Rattle.std.proofs.Common.{◌≡◌, ℕ, List, [], ◌∷◌, length, length-set, set, ap, sym, ◌∙◌}
use Rattle.std.specs.Prelude.{replicate, Result, Ok, Err}
use Rattle.std.proofs.lemmas.List.{length-replicate}
use Rattle.sql_trees.specs.Trees.{Tree}
use Rattle.sql_trees.specs.Statements.{SetTree}
use Rattle.sql_values.specs.declared.value.Value.{Value}
use Rattle.sql_values.specs.declared.value.Value.TheVariants.{Null}
use Rattle.sql_values.specs.declared.fault.ValueFault.{ValueFault}
use Rattle.sql_values.specs.Values.{assign, if_ok, each}
use Rattle.sql_values.specs.Expressions.{Cols, value}
use Rattle.query_results.specs.Queries.{AssignedColumn, filled, new_values}
use Rattle.query_results.specs.Updates.{updated}

same_Ok : {A : Type 0} {a b : A} → (let x : Result A ValueFault = Ok a in let y : Result A ValueFault = Ok b in x ≡ y) → a ≡ b
same_Ok h = cc

-- what follows a first answer is this long, whatever that is
length-after : {A : Type 0} (n : ℕ) (a : Result A ValueFault) (f : A → Result (List Value) ValueFault) (values : List Value)
    → ((x : A) → f x ≡ Ok values → length values ≡ n) → if_ok a f ≡ Ok values → length values ≡ n
length-after n (Ok x) f values long e = long x e
length-after n (Err fault) f values long e = absurd cc

-- a value's place takes nothing from the row
length-filled : (to : List AssignedColumn) (vs row values : List Value) → filled to vs row ≡ Ok values → length values ≡ length row
length-filled [] vs row values e = ap length (sym (same_Ok e))
length-filled (t ∷ ts) [] row values e = ap length (sym (same_Ok e))
length-filled (t ∷ ts) (v ∷ vs) row values e =
    length-after (length row) (assign v t.kind) (λ x. filled ts vs (set row t.place x)) values (λ x h. length-filled ts vs (set row t.place x) values h ∙ length-set row t.place x) e

-- a new row has a value for each column
pub length-new_values : (width : ℕ) (targets : List AssignedColumn) (row : List Tree) (values : List Value) → new_values width targets row ≡ Ok values → length values ≡ width
length-new_values width targets row values h =
    length-after width (each (λ e. value e [] []) row) (λ vs. filled targets vs (replicate width Null)) values
    (λ vs e. length-filled targets vs (replicate width Null) values e ∙ length-replicate width Null) h

-- and an updated one as many as before
pub length-updated : (cols : Cols) (targets : List AssignedColumn) (sets : List SetTree) (row values : List Value) → updated cols targets sets row ≡ Ok values → length values ≡ length row
length-updated cols targets sets row values h =
    length-after (length row) (each (λ (s : SetTree). value s.value cols row) sets) (λ vs. filled targets vs row) values (λ vs e. length-filled targets vs row values e) h
