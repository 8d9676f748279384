-- The columns that values are assigned to are those that are found one after the other.
use Rattle.std.proofs.Common.{◌≡◌, ℕ, ◌+◌, Bool, true, false, cond, List, [], ◌∷◌, map, Some, None, Ok, Err, refl, ap, ◌∙◌, subst, if◌then◌else◌}
use Rattle.std.specs.Prelude.{Option, Result, bytes_eq, find, is_ok, ok_or, option_map}
use Rattle.std.specs.List.{enumerate_from}
use Rattle.sql_trees.specs.Statements.{ColumnTree}
use Rattle.sql_values.specs.Values.{if_ok}
use Rattle.query_results.specs.Queries.{AssignedColumn, at_place, columns_assigned}
use Rattle.session_queries.specs.Inner.Assigned.{assigned_each, assigned_from, assigned_in_order, assigned_or, missing_name, missing_or}

-- all of them
pub all_in_order : (k : ℕ) (columns : List ColumnTree) → map at_place (enumerate_from k columns) ≡ assigned_in_order k columns
all_in_order k [] = refl
all_in_order k (c ∷ cs) = ap (λ (ts : List AssignedColumn). at_place (k, c) ∷ ts) (all_in_order (k + 1) cs)

by_test : (b : Bool) (k : ℕ) (c : ColumnTree) (found : Option (ℕ × ColumnTree)) (rest : Option AssignedColumn) → option_map at_place found ≡ rest
    → option_map at_place (cond b (Some (k, c)) found) ≡ (if b then Some (at_place (k, c)) else rest)
by_test true k c found rest h = refl
by_test false k c found rest h = h

-- the first of a name
named_from : (k : ℕ) (columns : List ColumnTree) (name : List ℕ)
    → option_map at_place (find (λ (c : ℕ × ColumnTree). bytes_eq c.1.name name) (enumerate_from k columns)) ≡ assigned_from k columns name
named_from k [] name = refl
named_from k (c ∷ cs) name =
    by_test (bytes_eq c.name name) k c (find (λ (c : ℕ × ColumnTree). bytes_eq c.1.name name) (enumerate_from (k + 1) cs)) (assigned_from (k + 1) cs name) (named_from (k + 1) cs name)

by_column : (name : List ℕ) (o : Option AssignedColumn) (r : Result (List AssignedColumn) (List ℕ)) → if_ok (ok_or o name) (λ t. if_ok r (λ ts. (let all : Result (List AssignedColumn) (List ℕ) = Ok (t ∷ ts) in all))) ≡ assigned_or name o r
by_column name None r = refl
by_column name (Some t) (Ok ts) = refl
by_column name (Some t) (Err lacks) = refl

-- those of these names
pub each_by_name : (columns : List ColumnTree) (names : List (List ℕ)) → columns_assigned columns (Some names) ≡ assigned_each columns names
each_by_name columns [] = refl
each_by_name columns (name ∷ names) =
    by_column name (option_map at_place (find (λ (c : ℕ × ColumnTree). bytes_eq c.1.name name) (enumerate_from 0 columns))) (columns_assigned columns (Some names))
    ∙ ap (λ (o : Option AssignedColumn). assigned_or name o (columns_assigned columns (Some names))) (named_from 0 columns name)
    ∙ ap (assigned_or name (assigned_from 0 columns name)) (each_by_name columns names)

-- the columns are found, by the name that is missing
abbrev Tells : Option (List ℕ) → Result (List AssignedColumn) (List ℕ) → Type 0
Tells None found = is_ok found ≡ true
Tells (Some name) found = found ≡ Err name

tells_or : (name : List ℕ) (o : Option AssignedColumn) (missing : Option (List ℕ)) (rest : Result (List AssignedColumn) (List ℕ)) → Tells missing rest → Tells (missing_or name o missing) (assigned_or name o rest)
tells_or name None missing rest h = refl
tells_or name (Some t) None (Ok ts) h = refl
tells_or name (Some t) None (Err lacks) h = absurd cc
tells_or name (Some t) (Some n) (Ok ts) h = absurd cc
tells_or name (Some t) (Some n) (Err lacks) h = h

tells : (columns : List ColumnTree) (names : List (List ℕ)) → Tells (missing_name columns names) (assigned_each columns names)
tells columns [] = refl
tells columns (name ∷ names) = tells_or name (assigned_from 0 columns name) (missing_name columns names) (assigned_each columns names) (tells columns names)

-- where a name is missing, it is told; where none is, all are found
pub missing_told : (columns : List ColumnTree) (names : List (List ℕ)) (name : List ℕ) → missing_name columns names ≡ Some name → columns_assigned columns (Some names) ≡ Err name
missing_told columns names name h = each_by_name columns names ∙ (subst (λ o. Tells o (assigned_each columns names)) h (tells columns names))

pub none_missing : (columns : List ColumnTree) (names : List (List ℕ)) → missing_name columns names ≡ None → is_ok (columns_assigned columns (Some names)) ≡ true
none_missing columns names h = ap is_ok (each_by_name columns names) ∙ (subst (λ o. Tells o (assigned_each columns names)) h (tells columns names))
