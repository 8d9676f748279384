-- An INSERT goes from one row of its VALUES to the next.
use Rattle.std.proofs.Common.{◌≡◌, ◌∙◌, ap, sym, ℕ, ◌<◌, ◌+◌, List, [], ◌∷◌, ◌++◌, drop, get_or, length, map, arith}
use Rattle.std.proofs.lemmas.List.{get_or-map, length-map}
use Rattle.std.specs.Prelude.{Some, IfOk, Result, Ok, Err}
use Rattle.sql_trees.specs.Trees.{Tree}
use Rattle.sql_values.specs.declared.fault.ValueFault.{ValueFault}
use Rattle.sql_values.specs.Values.{Answers}
use Rattle.query_results.specs.Queries.{AssignedColumn, new_values}
use Rattle.query_results.proofs.Placing.{length-new_values}
use Rattle.sql_values.specs.declared.value.Value.{Value}
use Rattle.sql_values.specs.declared.row.Row.{Row}
use Rattle.session_machine.specs.Tables.{Database}
use Rattle.session_machine.specs.Inner.Statements.{Visit, goes_on, walked}
use Rattle.session_database.specs.declared.stop.Stop.{Stop}
use Rattle.session_database.specs.Stops.{stop_of}
use Rattle.session_statements.specs.declared.act.Visited.{Visited}
use Rattle.session_statements.specs.declared.act.Visited.TheVariants.{Passes, Shows, Stops}
use Rattle.session_statements.specs.Inner.Acting.{visit_of}
use Rattle.session_statements.proofs.Lists.{drop_at}
use Rattle.session_statements.proofs.Visiting.{append_none, stepped, walk_step}

-- the row at a place, as it is read
at_place : {X Y : Type 0} (f : X → Y) (xs : List X) (at : ℕ) (x : X) → at < length xs → x ≡ get_or xs at x → get_or (map f xs) at (f x) ≡ f x
at_place f xs at x below is = get_or-map f xs at x (f x) below ∙ ap f (sym is)

-- the walk goes on behind a row that doesn't stop it, with what is answered for that
row_goes_on : {X Y : Type 0} (f : X → Y) (visit : Database → Y → Visit) (db e : Database) (xs : List X) (at : ℕ) (x : X) (rows more after : List (List Value)) → at < length xs → x ≡ get_or xs at x
    → visit db (f x) ≡ goes_on e more → after ≡ rows ++ more → walked visit e (at + 1) after (drop (at + 1) (map f xs)) ≡ walked visit db at rows (drop at (map f xs))
row_goes_on f visit db e xs at x rows more after below is same rows_are =
    let long = length-map xs f in
    let within : at < length (map f xs) = omega arith in
    ap (λ rs. walked visit e (at + 1) rs (drop (at + 1) (map f xs))) rows_are
    ∙ walk_step visit db e (map f xs) at (f x) rows more within (ap (visit db) (at_place f xs at x below is) ∙ same)

pub row_passes : {X Y : Type 0} (f : X → Y) (visit : Database → Y → Visit) (db e : Database) (xs : List X) (at : ℕ) (x : X) (rows after : List (List Value)) (v : Visited) → at < length xs → x ≡ get_or xs at x
    → visit db (f x) ≡ visit_of e v → v ≡ Passes → rows ≡ after → walked visit e (at + 1) after (drop (at + 1) (map f xs)) ≡ walked visit db at rows (drop at (map f xs))
row_passes f visit db e xs at x rows after v below is same passes rows_are =
    row_goes_on f visit db e xs at x rows [] after below is (same ∙ ap (visit_of e) passes) (sym rows_are ∙ sym (append_none rows))

pub row_shows : {X Y : Type 0} (f : X → Y) (visit : Database → Y → Visit) (db e : Database) (xs : List X) (at : ℕ) (x : X) (rows after : List (List Value)) (v : Visited) (row : Row) → at < length xs → x ≡ get_or xs at x
    → visit db (f x) ≡ visit_of e v → v ≡ Shows row → after ≡ rows ++ row ∷ [] → walked visit e (at + 1) after (drop (at + 1) (map f xs)) ≡ walked visit db at rows (drop at (map f xs))
row_shows f visit db e xs at x rows after v row below is same shows rows_are =
    row_goes_on f visit db e xs at x rows (row ∷ []) after below is (same ∙ ap (visit_of e) shows) rows_are

-- and halts at one that does
pub row_stops : {X Y : Type 0} (f : X → Y) (visit : Database → Y → Visit) (db e : Database) (xs : List X) (at : ℕ) (x : X) (rows : List (List Value)) (v : Visited) (stop : Stop) → at < length xs → x ≡ get_or xs at x
    → visit db (f x) ≡ visit_of e v → v ≡ Stops stop → walked visit db at rows (drop at (map f xs)) ≡ record { db = e; place = at; rows = rows; stop = Some (stop_of stop) }
row_stops f visit db e xs at x rows v stop below is same stops =
    let long = length-map xs f in
    let within : at < length (map f xs) = omega arith in
    ap (walked visit db at rows) (drop_at (map f xs) at (f x) within (sym (at_place f xs at x below is)))
    ∙ ap (stepped visit at rows (drop (at + 1) (map f xs))) (same ∙ ap (visit_of e) stops)

-- a row of VALUES has a value for each column
pub new_long : (width : ℕ) (to : List AssignedColumn) (row : List Tree) (result : Result (List Value) ValueFault) → Answers result (new_values width to row) → IfOk result (λ values. length values ≡ width)
new_long width to row (Ok values) h = length-new_values width to row values h
new_long width to row (Err fault) h = tt
