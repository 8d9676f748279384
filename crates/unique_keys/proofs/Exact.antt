-- What an index that is up to date finds is what the log says.
use Rattle.std.proofs.Common.{◌≡◌, refl, sym, ◌∙◌, ap, subst, Bool, true, false, not, ◌||◌, ◌&&◌, ◌==◌, ℕ, List, map, filter}
use mathlib.Core.Path.{fun_ext}
use Rattle.std.specs.Prelude.{Option, find, option_and_then}
use Rattle.sql_values.specs.declared.value.Value.{Value}
use Rattle.row_versions.specs.declared.names.TxId.{TxId}
use Rattle.row_versions.specs.declared.names.RowId.{RowId}
use Rattle.row_versions.specs.declared.names.TableId.{TableId}
use Rattle.row_versions.specs.declared.write.Fate.{Fate}
use Rattle.row_versions.specs.Log.{Content, IsOpen, has_committed, is_open, is_open_fate}
use Rattle.row_versions.specs.Newest.{newest_of}
use Rattle.unique_keys.specs.declared.noted.Noted.{Noted}
use Rattle.row_versions.specs.Members.{same_tx}
use Rattle.unique_keys.specs.Keys.{has_key}
use Rattle.unique_keys.specs.Writes.{writes, stands, IsUpToDate}
use Rattle.unique_keys.specs.Inner.Finding.{version_has, is_committed_version, committed_has, own_has, is_in_way, blockers_among, counts_for, is_version_for, is_another, newest_has, takes, row_noted, taker_among}
use Rattle.unique_keys.specs.Checks.{key_blockers, taken_by}
use Rattle.unique_keys.proofs.Filtered.{list_any-filter, find-filter, filter-filter, last_of-filter}
use Rattle.unique_keys.proofs.Listed.{same_is}
use Rattle.unique_keys.proofs.Logged.{blockers_are, taken_is, taker_is}

and_left : (a b : Bool) → (a && b) ≡ true → a ≡ true
and_left true b h = refl
and_left false b h = cc

and_right : (a b : Bool) → (a && b) ≡ true → b ≡ true
and_right true b h = h
and_right false b h = cc

or_left : (a b : Bool) → a ≡ true → (a || b) ≡ true
or_left true b h = refl
or_left false b h = cc

or_right : (a b : Bool) → b ≡ true → (a || b) ≡ true
or_right true b h = refl
or_right false b h = h

open_is : (fates : List Fate) (a b : TxId) → same_tx a b ≡ true → is_open fates b ≡ true → is_open fates a ≡ true
open_is fates a b e h = subst (λ t. is_open fates t ≡ true) (sym (same_is a b e)) h

-- a part that is the same where the transaction is active, and else doesn't matter
while_active : (t n active : Bool) (z y : Bool) → (active ≡ true → z ≡ y) → ((t && (n && active)) && z) ≡ ((t && (n && active)) && y)
while_active t n true z y h = ap (λ v. (t && (n && true)) && v) (h refl)
while_active true true false z y h = refl
while_active true false false z y h = refl
while_active false n false z y h = refl

counts_stands : (c : Content) (tx : TxId) → IsOpen c tx → (w : Noted) → counts_for (has_committed c) tx w ≡ true → stands c.fates w ≡ true
counts_stands c tx h w k = cases (has_committed c w.tx) refl k where
  cases : (a : Bool) → has_committed c w.tx ≡ a → (a || same_tx w.tx tx) ≡ true → stands c.fates w ≡ true
  cases true e k = or_right (is_open c.fates w.tx) (has_committed c w.tx) e
  cases false e k = or_left (is_open c.fates w.tx) (has_committed c w.tx) (open_is c.fates w.tx tx k (ap is_open_fate h))

newest_same : (c : Content) (tx : TxId) → IsOpen c tx → (columns : List ℕ) (asked : List Value) (row : RowId)
    → newest_has (has_committed c) (filter (stands c.fates) (writes c)) columns asked row tx ≡ newest_has (has_committed c) (writes c) columns asked row tx
newest_same c tx h columns asked row =
    ap (λ v. version_has columns asked v)
    (last_of-filter (stands c.fates) (is_version_for (has_committed c) row tx) (λ w k. counts_stands c tx h w (and_right (w.row.0 == row.0) (counts_for (has_committed c) tx w) k)) (writes c))

-- where a write takes the key, it stands
taker_stands : (c : Content) (tx : TxId) → IsOpen c tx → (table : TableId) (except : Option RowId) (asked : List Value) (columns : List ℕ) (w : Noted)
    → takes (has_committed c) (writes c) table tx except asked columns w ≡ true → stands c.fates w ≡ true
taker_stands c tx h table except asked columns w k =
    let counted = counts_for (has_committed c) tx w && has_key columns asked w.values in
    counts_stands c tx h w (and_left (counts_for (has_committed c) tx w) (has_key columns asked w.values) (and_right (is_another except w.row) counted (and_right (w.table.0 == table.0) (is_another except w.row && counted)
    (and_left ((w.table.0 == table.0) && (is_another except w.row && counted)) (newest_has (has_committed c) (writes c) columns asked w.row tx) k))))

pub taken_same : (c : Content) (index : List Noted) (tx : TxId) → IsUpToDate index c → IsOpen c tx → (table : TableId) (except : Option RowId) (asked : List Value) (columns : List ℕ)
    → option_and_then (λ row. newest_of c row tx) (taker_among (has_committed c) index table tx except asked columns) ≡ taken_by c table tx except asked columns
taken_same c index tx up h table except asked columns =
    let by_stands : Noted → Bool = takes (has_committed c) (filter (stands c.fates) (writes c)) table tx except asked columns in
    let by_all : Noted → Bool = takes (has_committed c) (writes c) table tx except asked columns in
    ap (λ o. option_and_then (λ row. newest_of c row tx) o)
    (ap (λ v. taker_among (has_committed c) v table tx except asked columns) up
    ∙ ap (λ (test : Noted → Bool). row_noted (find test (filter (stands c.fates) (writes c))))
    (fun_ext {f = by_stands} {g = by_all} (λ w. ap (λ v. ((w.table.0 == table.0) && (is_another except w.row && (counts_for (has_committed c) tx w && has_key columns asked w.values))) && v) (newest_same c tx h columns asked w.row)))
    ∙ ap row_noted (find-filter (stands c.fates) by_all (taker_stands c tx h table except asked columns) (writes c))
    ∙ sym (taker_is c table tx except asked columns))
    ∙ sym (taken_is c table tx except asked columns)

committed_same : (c : Content) (columns : List ℕ) (asked : List Value) (row : RowId)
    → committed_has (has_committed c) (filter (stands c.fates) (writes c)) columns asked row ≡ committed_has (has_committed c) (writes c) columns asked row
committed_same c columns asked row =
    ap (λ v. version_has columns asked v)
    (last_of-filter (stands c.fates) (is_committed_version (has_committed c) row) (λ w k. or_right (is_open c.fates w.tx) (has_committed c w.tx) (and_right (w.row.0 == row.0) (has_committed c w.tx) k)) (writes c))

own_same : (c : Content) (columns : List ℕ) (asked : List Value) (row : RowId) (u : TxId) → is_open c.fates u ≡ true
    → own_has (filter (stands c.fates) (writes c)) columns asked row u ≡ own_has (writes c) columns asked row u
own_same c columns asked row u h =
    list_any-filter (stands c.fates) (λ v. ((v.row.0 == row.0) && same_tx v.tx u) && has_key columns asked v.values) (λ v. ((v.row.0 == row.0) && same_tx v.tx u) && has_key columns asked v.values)
    (λ v. refl)
    (λ v k. or_left (is_open c.fates v.tx) (has_committed c v.tx) (open_is c.fates v.tx u (and_right (v.row.0 == row.0) (same_tx v.tx u) (and_left ((v.row.0 == row.0) && same_tx v.tx u) (has_key columns asked v.values) k)) h))
    (writes c)

-- a write is in the way by the index where it is by the log
way_same : (c : Content) (table : TableId) (tx : TxId) (asked : List Value) (columns : List ℕ) (w : Noted)
    → is_in_way (has_committed c) (is_open c.fates) (filter (stands c.fates) (writes c)) table columns asked tx w ≡ is_in_way (has_committed c) (is_open c.fates) (writes c) table columns asked tx w
way_same c table tx asked columns w =
    while_active (w.table.0 == table.0) (not (same_tx w.tx tx)) (is_open c.fates w.tx) _ _
    (λ h. ap (λ v. v || own_has (filter (stands c.fates) (writes c)) columns asked w.row w.tx) (committed_same c columns asked w.row)
    ∙ ap (λ v. committed_has (has_committed c) (writes c) columns asked w.row || v) (own_same c columns asked w.row w.tx h))

pub blockers_same : (c : Content) (index : List Noted) → IsUpToDate index c → (table : TableId) (tx : TxId) (asked : List Value) (columns : List ℕ)
    → blockers_among (has_committed c) (is_open c.fates) index table tx asked columns ≡ key_blockers c table tx asked columns
blockers_same c index up table tx asked columns =
    ap (λ v. blockers_among (has_committed c) (is_open c.fates) v table tx asked columns) up
    ∙ ap (λ ws. map (λ (w : Noted). w.tx) ws) (filter-filter (stands c.fates) (is_in_way (has_committed c) (is_open c.fates) (filter (stands c.fates) (writes c)) table columns asked tx) (is_in_way (has_committed c) (is_open c.fates) (writes c) table columns asked tx)
    (λ w s. way_same c table tx asked columns w)
    (λ w k. or_left (is_open c.fates w.tx) (has_committed c w.tx) (active w k))
    (writes c))
    ∙ sym (blockers_are c table tx asked columns) where
      active : (w : Noted) → is_in_way (has_committed c) (is_open c.fates) (writes c) table columns asked tx w ≡ true → is_open c.fates w.tx ≡ true
      active w k =
          and_right (not (same_tx w.tx tx)) (is_open c.fates w.tx) (and_right (w.table.0 == table.0) (not (same_tx w.tx tx) && is_open c.fates w.tx)
          (and_left ((w.table.0 == table.0) && (not (same_tx w.tx tx) && is_open c.fates w.tx)) (committed_has (has_committed c) (writes c) columns asked w.row || own_has (writes c) columns asked w.row w.tx) k))
