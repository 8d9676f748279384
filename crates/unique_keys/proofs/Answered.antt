-- From who stands in the way to what is found of a key.
use Rattle.std.proofs.Common.{◌≡◌, ◌≢◌, refl, sym, ◌∙◌, ap, subst, Bool, true, false, not, ◌&&◌, ℕ, List, [], ◌∷◌, filter}
use Rattle.std.specs.Prelude.{Option, Some, None, option_and_then, Result, Ok, Err, IfOk, OnErr}
use Rattle.std.specs.List.{list_any}
use Rattle.sql_values.specs.declared.value.Value.{Value}
use Rattle.row_versions.specs.declared.names.TxId.{TxId}
use Rattle.row_versions.specs.declared.names.RowId.{RowId}
use Rattle.row_versions.specs.declared.names.TableId.{TableId}
use Rattle.row_versions.specs.declared.write.Seen.{Seen}
use Rattle.row_versions.specs.Newest.{newest_of}
use Rattle.row_versions.specs.Log.{Content, IsOpen, has_committed, is_open, open_in}
use Rattle.row_versions.proofs.OpenTxs.{has_open, open_once}
use Rattle.unique_keys.specs.declared.noted.Noted.{Noted}
use Rattle.unique_keys.specs.declared.key_index.Found.{Found}
use Rattle.unique_keys.specs.declared.key_index.Found.TheVariants as found
use Rattle.unique_keys.specs.Members.{EachOnce}
use Rattle.row_versions.specs.Members.{has, is_none_of}
use Rattle.unique_keys.specs.Keys.{Keys, columns_of_key}
use Rattle.unique_keys.specs.Writes.{IsUpToDate}
use Rattle.unique_keys.specs.Inner.Finding.{blockers_among, is_blocker, taker_among}
use Rattle.unique_keys.specs.Checks.{KeyIsHeld, KeyIsTaken, FindsKey, NamesBlockers, key_blockers, taken_by, found_by, found_of, key_found}
use Rattle.unique_keys.proofs.Exact.{blockers_same, taken_same}
use Rattle.unique_keys.proofs.Standing.{any_is_some, blocker_is, passing_once}

-- the blockers are those of the open transactions that stand in the way by the index
blocks : (c : Content) (index notes : List Noted) (table : TableId) (tx : TxId) (asked : List Value) (columns : List ℕ) → notes ≡ index → IsUpToDate index c → (u : TxId)
    → has (key_blockers c table tx asked columns) u ≡ (is_blocker (has_committed c) notes table columns asked tx u && has (open_in c.fates) u)
blocks c index notes table tx asked columns e up u =
    ap (λ us. has us u) (sym (ap (λ ws. blockers_among (has_committed c) (is_open c.fates) ws table tx asked columns) e ∙ blockers_same c index up table tx asked columns))
    ∙ blocker_is (has_committed c) (is_open c.fates) notes table columns asked tx u ∙ ap (λ b. is_blocker (has_committed c) notes table columns asked tx u && b) (sym (has_open c.fates u))

-- whether one of them does is whether somebody blocks
pub held_by_some : (c : Content) (index notes : List Noted) (table : TableId) (tx : TxId) (asked : List Value) (columns : List ℕ) → notes ≡ index → IsUpToDate index c
    → list_any (is_blocker (has_committed c) notes table columns asked tx) (open_in c.fates) ≡ not (is_none_of (key_blockers c table tx asked columns))
held_by_some c index notes table tx asked columns e up =
    any_is_some (is_blocker (has_committed c) notes table columns asked tx) (key_blockers c table tx asked columns) (open_in c.fates) (blocks c index notes table tx asked columns e up)

-- who is found in the index is who blocks
pub blockers_here : (c : Content) (index notes : List Noted) (table : TableId) (tx : TxId) (asked : List Value) (columns : List ℕ) (found : List TxId) → notes ≡ index
    → found ≡ filter (is_blocker (has_committed c) notes table columns asked tx) (open_in c.fates) → IsUpToDate index c → EachOnce (key_blockers c table tx asked columns) found
blockers_here c index notes table tx asked columns found e is up =
    passing_once (is_blocker (has_committed c) notes table columns asked tx) (key_blockers c table tx asked columns) (open_in c.fates) found (blocks c index notes table tx asked columns e up) (open_once c.fates) is

-- where one of them does, somebody blocks
pub some_block : (c : Content) (index notes : List Noted) (table : TableId) (tx : TxId) (asked : List Value) (columns : List ℕ) → notes ≡ index
    → list_any (is_blocker (has_committed c) notes table columns asked tx) (open_in c.fates) ≡ true → IsUpToDate index c → key_blockers c table tx asked columns ≢ []
some_block c index notes table tx asked columns e some up =
    λ none. let k : false ≡ true = sym (ap (λ us. not (is_none_of us)) none) ∙ sym (held_by_some c index notes table tx asked columns e up) ∙ some in cc

some_found : (by : List TxId) (taken : Option Seen) (b : Bool) → b ≡ not (is_none_of by) → b ≡ true → found_by by taken ≡ KeyIsHeld
some_found [] taken true e h = cc
some_found [] taken false e h = cc
some_found (u ∷ others) taken b e h = refl

none_found : (by : List TxId) (taken : Option Seen) (b : Bool) → b ≡ not (is_none_of by) → b ≡ false → found_by by taken ≡ found_by [] taken
none_found [] taken b e h = refl
none_found (u ∷ others) taken true e h = cc
none_found (u ∷ others) taken false e h = cc

-- what is found where the key is held, and where it isn't
pub finds_held : (c : Content) (table : TableId) (tx : TxId) (except : Option RowId) (asked : List Value) (columns : List ℕ) (b : Bool) → b ≡ not (is_none_of (key_blockers c table tx asked columns)) → b ≡ true
    → key_found c table tx except asked columns ≡ KeyIsHeld
finds_held c table tx except asked columns b e h = some_found (key_blockers c table tx asked columns) (taken_by c table tx except asked columns) b e h

pub finds_unheld : (c : Content) (index notes : List Noted) (table : TableId) (tx : TxId) (except : Option RowId) (asked : List Value) (columns : List ℕ) (b : Bool) (taken : Option RowId) → notes ≡ index
    → (IsUpToDate index c → b ≡ not (is_none_of (key_blockers c table tx asked columns))) → b ≡ false → taken ≡ taker_among (has_committed c) notes table tx except asked columns
    → IsUpToDate index c → IsOpen c tx → key_found c table tx except asked columns ≡ found_by [] (option_and_then (λ row. newest_of c row tx) taken)
finds_unheld c index notes table tx except asked columns b taken e held h is up is_open =
    none_found (key_blockers c table tx asked columns) (taken_by c table tx except asked columns) b (held up) h
    ∙ ap (λ v. found_by [] v) (sym (ap (λ v. option_and_then (λ row. newest_of c row tx) v) (is ∙ ap (λ v. taker_among (has_committed c) v table tx except asked columns) e) ∙ taken_same c index tx up is_open table except asked columns))

finds_key : (by : List TxId) (taken : Option Seen) (f : Found) → found_by by taken ≡ found_of f → NamesBlockers by f → FindsKey (λ k. by) (λ k. taken) [] f
finds_key [] (Some v) found.Free e names = cc
finds_key [] None found.Free e names = (refl, refl)
finds_key (u ∷ others) taken found.Free e names = cc
finds_key [] (Some v) (found.Taken s) e names = (refl, same v s e) where
  same : (a b : Seen) → KeyIsTaken a ≡ KeyIsTaken b → Some a ≡ Some b
  same a b h = cc
finds_key [] None (found.Taken s) e names = cc
finds_key (u ∷ others) taken (found.Taken s) e names = cc
finds_key [] (Some v) (found.Held who) e names = cc
finds_key [] None (found.Held who) e names = cc
finds_key (u ∷ others) taken (found.Held who) e names = (λ none. cc, names)

as_asked : (by : List ℕ → List TxId) (taken : List ℕ → Option Seen) (columns : List ℕ) (f : Found) → FindsKey (λ k. by columns) (λ k. taken columns) [] f → FindsKey by taken columns f
as_asked by taken columns found.Free h = h
as_asked by taken columns (found.Taken s) h = h
as_asked by taken columns (found.Held who) h = h

-- the blockers of a key of the table, with the table's own parts in place of those that were lent
pub blockers_lent : (c : Content) (tx : TxId) (t : Keys) (asked lent : List Value) (table : TableId) (columns : List ℕ) (key : ℕ) → table ≡ t.table → lent ≡ asked → columns ≡ columns_of_key t key
    → key_blockers c table tx lent columns ≡ key_blockers c t.table tx asked (columns_of_key t key)
blockers_lent c tx t asked lent table columns key e1 e2 e3 =
    ap (λ v. key_blockers c v tx lent columns) e1 ∙ ap (λ v. key_blockers c t.table tx v columns) e2 ∙ ap (λ v. key_blockers c t.table tx asked v) e3

-- what is found of it, likewise
pub finds_here : (c : Content) (tx : TxId) (except : Option RowId) (t : Keys) (asked lent : List Value) (table : TableId) (columns : List ℕ) (f : Found) (key : ℕ)
    → table ≡ t.table → lent ≡ asked → columns ≡ columns_of_key t key
    → key_found c table tx except lent columns ≡ found_of f → NamesBlockers (key_blockers c table tx lent columns) f
    → FindsKey (key_blockers c t.table tx asked) (taken_by c t.table tx except asked) (columns_of_key t key) f
finds_here c tx except t asked lent table columns f key e1 e2 e3 found names =
    as_asked (key_blockers c t.table tx asked) (taken_by c t.table tx except asked) (columns_of_key t key) f
    (finds_key (key_blockers c t.table tx asked (columns_of_key t key)) (taken_by c t.table tx except asked (columns_of_key t key)) f
    (sym (ap (λ v. key_found c v tx except lent columns) e1 ∙ ap (λ v. key_found c t.table tx except v columns) e2 ∙ ap (λ v. key_found c t.table tx except asked v) e3) ∙ found)
    (subst (λ v. NamesBlockers v f) (blockers_lent c tx t asked lent table columns key e1 e2 e3) names))

pub ok_more : {A E : Type 0} (r : Result A E) (P Q : A → Type 0) → ((x : A) → P x → Q x) → IfOk r P → IfOk r Q
ok_more (Ok x) P Q f h = f x h
ok_more (Err e) P Q f h = tt

pub err_more : {A E : Type 0} (r : Result A E) (P Q : Type 0) → (P → Q) → OnErr r P → OnErr r Q
err_more (Ok x) P Q f h = tt
err_more (Err e) P Q f h = f h
