-- What a session would see of a table is what a SELECT of all its rows shows.
use Rattle.std.proofs.Common.{◌≡◌, ◌≢◌, ℕ, suc, ◌<◌, ◌≤◌, ◌+◌, ◌==◌, Bool, true, false, cond, not, ◌&&◌, ◌||◌, List, [], ◌∷◌, ◌++◌, length, refl, ap, sym, ◌∙◌, subst, arith}
use Rattle.std.specs.Prelude.{Option, Some, None, filter, option_map, unwrap_or, slice_get, bytes_eq, nat_lt, map, Result, Ok}
use Rattle.std.specs.List.{enumerate_from}
use Rattle.std.proofs.lemmas.Bool.{ne_eqb, le-ltb, and_right}
use Rattle.sql_trees.specs.declared.stmt.Level.TheVariants.{ReadCommitted}
use Rattle.sql_trees.specs.Statements.{ColumnTree, SelectTree, All}
use Rattle.sql_values.specs.declared.value.Value.{Value}
use Rattle.sql_values.specs.declared.fault.ValueFault.{ValueFault}
use Rattle.sql_values.specs.Values.{Answer, each, if_ok}
use Rattle.sql_values.specs.Expressions.{Cols, passes}
use Rattle.query_results.specs.Results.{Results}
use Rattle.row_versions.specs.declared.names.TxId.{TxId}
use Rattle.row_versions.specs.declared.names.TableId.{TableId}
use Rattle.row_versions.specs.declared.write.Seen.{Seen}
use Rattle.row_versions.specs.declared.write.Fate.TheVariants.{Open as OpenFate}
use Rattle.row_versions.specs.Log.{Content, fate_of, has_committed, values_at, next_tx, after_begin}
use Rattle.row_versions.specs.Inner.Searching.{is_committed}
use Rattle.row_versions.specs.View.{committed_before}
use Rattle.row_versions.proofs.Gets.{get-append_left}
use Rattle.row_versions.proofs.Shown.{views_agree}
use Rattle.session_machine.specs.declared.session.OpenTransaction.{OpenTransaction}
use Rattle.session_machine.specs.declared.session.Transaction.{Transaction}
use Rattle.session_machine.specs.declared.session.Transaction.TheVariants.{Closed, Open, Aborted}
use Rattle.session_machine.specs.declared.fault.Refusal.{Refusal}
use Rattle.session_machine.specs.Tables.{Database, Table, Dropped, counts, is_meant, find_table}
use Rattle.session_machine.specs.Transactions.{fresh, own_of, view_of, view_now}
use Rattle.query_results.specs.Queries.{passing, row_values, titles_of, result_of, cols_of}
use Rattle.query_results.specs.Ordering.{rows_at}
use Rattle.query_results.proofs.Unsorted.{unsorted}
use Rattle.sql_values.specs.Sorting.{keys_at}
use Rattle.session_machine.specs.Views.{rows_shown}
use Rattle.session_machine.specs.declared.session.Progress.{Progress}
use Rattle.session_machine.specs.declared.session.Session.{Session}
use Rattle.session_machine.specs.Statements.{Surroundings, Effect}
use Rattle.session_machine.specs.Running.{run_stmt}
use Rattle.session_machine.specs.Inner.Statements.{answered, run_piecewise, begun}
use Rattle.session_machine.specs.Inner.Pieces.{select_found, is_dropped, table_columns, find_from}
use Rattle.session_machine.proofs.Piecewise.{finds_by}
use Rattle.session_machine.proofs.ByKind.{runs_by_kind}
use Rattle.session_machine.specs.Machine.{Next, next, visible_to, visible_for}
use Rattle.session_machine.specs.Inner.Steps.{around}
use Rattle.session_laws.specs.Laws.{VisibleIsSelected, select_all, shown_by}
use Rattle.session_laws.proofs.Staying.{hides-begin, shown_stays}
use Rattle.session_laws.proofs.Unseen.{after_outcome}
use Rattle.session_laws.proofs.Orderly.{IsKnown}
use Rattle.session_laws.proofs.Ordering.{orderly_run}
use Rattle.session_laws.proofs.Sound.{ran}
use Rattle.session_laws.proofs.Positive.{begins_due}

abbrev ok_row : List Value → Result (List Value) ValueFault
ok_row vs = Ok vs

abbrev ok_rows : List (List Value) → Result (List (List Value)) ValueFault
ok_rows rows = Ok rows

-- without WHERE each row is taken, and all of it is shown
abbrev places_from : ℕ → List (List Value) → List ℕ
places_from k [] = []
places_from k (row ∷ rows) = k ∷ places_from (k + 1) rows

abbrev ok_places : List ℕ → Result (List ℕ) ValueFault
ok_places places = Ok places

abbrev ok_tests : List Bool → Result (List Bool) ValueFault
ok_tests tests = Ok tests

abbrev chosen : ℕ → List Bool → List ℕ
chosen k tests = map (λ (p : ℕ × Bool). p.0) (filter (λ (p : ℕ × Bool). p.1) (enumerate_from k tests))

all_pass : (cols : Cols) (rows : List (List Value)) → each (passes None cols) rows ≡ Ok (map (λ row. true) rows)
all_pass cols [] = refl
all_pass cols (row ∷ rows) = ap (λ (r : Result (List Bool) ValueFault). if_ok r (λ ps. ok_tests (true ∷ ps))) (all_pass cols rows)

all_chosen : (k : ℕ) (rows : List (List Value)) → chosen k (map (λ row. true) rows) ≡ places_from k rows
all_chosen k [] = refl
all_chosen k (row ∷ rows) = ap (λ (ps : List ℕ). k ∷ ps) (all_chosen (k + 1) rows)

passing_all : (cols : Cols) (rows : List (List Value)) → passing cols None rows ≡ Ok (places_from 0 rows)
passing_all cols rows = ap (λ (r : Result (List Bool) ValueFault). if_ok r (λ ps. ok_places (chosen 0 ps))) (all_pass cols rows) ∙ ap Ok (all_chosen 0 rows)

picked_all : (all : List (List Value)) (k : ℕ) (rows : List (List Value)) → ((i : ℕ) → keys_at all (k + i) ≡ keys_at rows i) → rows_at all (places_from k rows) ≡ rows
picked_all all k [] h = refl
picked_all all k (row ∷ rows) h =
    let here : k + 0 ≡ k = omega arith in
    let first : keys_at all k ≡ row = ap (keys_at all) (sym here) ∙ h 0 in
    let rest = picked_all all (k + 1) rows (λ i. let e : k + 1 + i ≡ k + suc i = omega arith in ap (keys_at all) e ∙ h (suc i)) in
    λ i. first i ∷ rest i

row_all : (row : List Value) → each (λ (answer : Answer). answer) (map (λ v. Ok v) row ++ []) ≡ Ok row
row_all [] = refl
row_all (v ∷ row) = let rest = row_all row in λ j. if_ok (rest j) (λ vs. ok_row (v ∷ vs))

each_all : (cols : Cols) (rows : List (List Value)) → each (row_values cols (All ∷ [])) rows ≡ Ok rows
each_all cols [] = refl
each_all cols (row ∷ rows) =
    let first = row_all row in
    let rest = each_all cols rows in
    λ j. if_ok (first j) (λ vs. if_ok (rest j) (λ more. ok_rows (vs ∷ more)))

abbrev all_of : List ℕ → SelectTree
all_of name = record { items = All ∷ []; table = Some name; filter = None; order = []; lock = None }

all_shown : (name : List ℕ) (columns : List ColumnTree) (rows : List (List Value)) → result_of (all_of name) columns rows ≡ Ok (record { titles = titles_of columns (All ∷ []); rows = rows })
all_shown name columns rows =
    let f : List (List Value) → Result Results ValueFault = λ shown. Ok (record { titles = titles_of columns (All ∷ []); rows = shown }) in
    let show : List ℕ → Result Results ValueFault = λ places. if_ok (each (row_values (cols_of columns) (All ∷ [])) (rows_at rows places)) f in
    (λ j. if_ok (if_ok (passing (cols_of columns) None rows) (λ places. unsorted (cols_of columns) (All ∷ []) rows places j)) show)
    ∙ ap (λ (r : Result (List ℕ) ValueFault). if_ok (if_ok r ok_places) show) (passing_all (cols_of columns) rows)
    ∙ (ap (λ (rs : List (List Value)). if_ok (each (row_values (cols_of columns) (All ∷ [])) rs) f) (picked_all rows 0 rows (λ i. let e : 0 + i ≡ i = omega arith in ap (keys_at rows) e))
    ∙ ap (λ (r : Result (List (List Value)) ValueFault). if_ok r f) (each_all (cols_of columns) rows))

shown_in : (db : Database) (t : OpenTransaction) (a : Surroundings) (name : List ℕ) (o : Option ℕ)
    → shown_by (select_found db t a (all_of name) name o).outcome ≡ Some (option_map (rows_shown db.content (view_of db.content t)) o)
shown_in db t a name None = refl
shown_in db t a name (Some k) =
    ap (λ (r : Result Results ValueFault). shown_by (answered db t r).outcome) (all_shown name (table_columns db.catalog k) (rows_shown db.content (view_of db.content t) k))

-- a transaction that begins makes no table known, and hides none
counts_same : (c : Content) (tx : TxId) → tx.0 < length c.fates → counts (after_begin c) (Some (next_tx c)) tx ≡ counts c None tx
counts_same c tx l =
    let one : has_committed (after_begin c) tx ≡ has_committed c tx = ap is_committed (get-append_left c.fates (OpenFate ∷ []) tx.0 l) in
    let other : (length c.fates == tx.0) ≡ false = ne_eqb (length c.fates) tx.0 (λ e. let z : ⊥ = omega arith in z) in
    λ i. one i || other i

dropped_same : (c : Content) (k : ℕ) (drops : List Dropped) → ((j : ℕ) (d : Dropped) → slice_get drops j ≡ Some d → d.by.0 < length c.fates)
    → is_dropped (after_begin c) (Some (next_tx c)) drops k ≡ is_dropped c None drops k
dropped_same c k [] h = refl
dropped_same c k (d ∷ drops) h =
    let first = counts_same c d.by (h 0 d refl) in
    let rest = dropped_same c k drops (λ j x at. h (suc j) x at) in
    λ i. ((d.table == k) && first i) || rest i

found_same : (c : Content) (drops : List Dropped) (name : List ℕ) (k : ℕ) (tables : List Table) → ((j : ℕ) (d : Dropped) → slice_get drops j ≡ Some d → d.by.0 < length c.fates)
    → ((j : ℕ) (t : Table) → slice_get tables j ≡ Some t → t.by.0 < length c.fates)
    → find_from (after_begin c) (Some (next_tx c)) drops name k tables ≡ find_from c None drops name k tables
found_same c drops name k [] h l = refl
found_same c drops name k (t ∷ ts) h l =
    let first : is_meant (after_begin c) (Some (next_tx c)) drops name k t ≡ is_meant c None drops name k t =
    (let a = counts_same c t.by (l 0 t refl) in let b = dropped_same c k drops h in λ i. bytes_eq t.made.name name && (a i && not (b i))) in
    let rest = found_same c drops name (k + 1) ts h (λ j x at. l (suc j) x at) in
    λ i. cond (first i) (Some k) (rest i)

-- a transaction of which nothing was asked yet sees what is committed
fresh_sees : (c : Content) (k : ℕ) → rows_shown (after_begin c) (view_of (after_begin c) (fresh c ReadCommitted false)) k ≡ rows_shown c (view_now c Closed None) k
fresh_sees c k =
    let view = view_of (after_begin c) (fresh c ReadCommitted false) in
    let table : TableId = record { 0 = k } in
    let same = (hides-begin view c).same_count in
    shown_stays view c (after_begin c) k (hides-begin view c).stays
    ∙ ap (map (λ (s : Seen). unwrap_or (values_at c s.place) []))
    (views_agree c view (view_now c Closed None) table
    (λ w.
    let none : ((w.tx.0 == length c.fates) && nat_lt w.command 0) ≡ false = (let low : 0 ≤ w.command = omega arith in and_right _ _ (le-ltb w.command 0 low)) in
    λ i. committed_before (same i) (fate_of c.fates w.tx) || none i))

map_same : {A B : Type 0} (f g : A → B) (o : Option A) → ((x : A) → f x ≡ g x) → option_map f o ≡ option_map g o
map_same f g None h = refl
map_same f g (Some x) h = ap Some (h x)

abbrev session_in : Transaction → Session
session_in t = record { place = None; transaction = t; statement = None }

shows_by_kind : (db : Database) (t : Transaction) (a : Surroundings) (name : List ℕ) → IsKnown db → t ≢ Aborted → shown_by (run_piecewise db t None a (select_all name)).outcome ≡ Some (visible_to db (session_in t) name)
shows_by_kind db Closed a name known other =
    let c = db.content in
    shown_in (begun db) (fresh c ReadCommitted false) a name (find_table (begun db) (Some (next_tx c)) name)
    ∙ ap Some
    (ap (option_map (rows_shown (after_begin c) (view_of (after_begin c) (fresh c ReadCommitted false))))
    (finds_by (begun db) (Some (next_tx c)) name ∙ (found_same c db.catalog.drops name 0 db.catalog.tables known.drops known.tables ∙ sym (finds_by db None name)))
    ∙ map_same (rows_shown (after_begin c) (view_of (after_begin c) (fresh c ReadCommitted false))) (rows_shown c (view_now c Closed None)) (find_table db None name) (fresh_sees c))
shows_by_kind db (Open t) a name known other = shown_in db t a name (find_table db (Some t.tx) name)
shows_by_kind db Aborted a name known other = absurd (other refl)

select_shows : (db : Database) (t : Transaction) (a : Surroundings) (name : List ℕ) → IsKnown db → t ≢ Aborted → shown_by (run_stmt db t None a (select_all name)).outcome ≡ Some (visible_to db (session_in t) name)
select_shows db t a name known other = ap (λ (d : Effect). shown_by d.outcome) (runs_by_kind db t None a (select_all name)) ∙ shows_by_kind db t a name known other

ok_same : {A : Type 0} {a b : A} → (let x : Result A Refusal = Ok a in let y : Result A Refusal = Ok b in x ≡ y) → a ≡ b
ok_same h = cc

pub visible_is_selected : VisibleIsSelected
visible_is_selected blocks count mode items m item after i s name rows few run at other over due event follows seen =
    let n : Next = record { machine = after; reply = item.reply } in
    let orderly = (orderly_run blocks count mode items m few run).1 in
    let began = begins_due blocks mode m i s (select_all name) n at due (subst (λ e. next blocks mode m e ≡ Ok n) event follows) in
    let d = ran m i s (select_all name) in
    let outcome : item.reply.outcome ≡ d.outcome = ap (λ (x : Next). x.reply.outcome) (sym began.leads) ∙ after_outcome m i began.place began.count d in
    let fresh_one : d ≡ run_stmt m.db s.transaction None (around m i s) (select_all name) = ap (λ (p : Option Progress). run_stmt m.db s.transaction p (around m i s) (select_all name)) over in
    let same_rows : visible_to m.db (session_in s.transaction) name ≡ visible_to m.db s name =
    ap (λ (p : Option Progress). option_map (rows_shown m.db.content (view_now m.db.content s.transaction p)) (find_table m.db (own_of s.transaction) name)) (sym over) in
    let sees_rows : visible_to m.db s name ≡ rows = ok_same (sym (ap (visible_for m name) at) ∙ seen) in
    ap shown_by outcome ∙ (ap (λ (x : Effect). shown_by x.outcome) fresh_one ∙ (select_shows m.db s.transaction (around m i s) name orderly.known other ∙ (ap Some same_rows ∙ ap Some sees_rows)))
