-- What is said of the log is what is found among all that is noted of it.
use Rattle.std.proofs.Common.{◌≡◌, refl, ◌∙◌, ap, Bool, true, false, cond, not, ◌&&◌, ◌||◌, ◌==◌, ℕ, zero, suc, ◌+◌, List, [], ◌∷◌, map, filter, drop, reverse, arith}
use mathlib.Core.Path.{fun_ext}
use mathlib.Core.List.{reverse_aux}
use Rattle.std.specs.Prelude.{Option, Some, None, option_map, option_and_then, find, slice_get}
use Rattle.std.specs.List.{list_any, enumerate_from}
use Rattle.sql_values.specs.declared.value.Value.{Value}
use Rattle.row_versions.specs.declared.names.TxId.{TxId}
use Rattle.row_versions.specs.declared.names.RowId.{RowId}
use Rattle.row_versions.specs.declared.names.TableId.{TableId}
use Rattle.row_versions.specs.declared.write.Write.{Write}
use Rattle.row_versions.specs.declared.write.Seen.{Seen}
use Rattle.row_versions.specs.Members.{same_tx}
use Rattle.row_versions.specs.Log.{Content, has_committed, is_open, values_at}
use Rattle.row_versions.specs.Newest.{newest_of}
use Rattle.row_versions.proofs.Filtered.{drop_next}
use Rattle.unique_keys.specs.declared.noted.Noted.{Noted}
use Rattle.unique_keys.specs.Keys.{has_key}
use Rattle.unique_keys.specs.Writes.{noted_of, writes}
use Rattle.unique_keys.specs.Inner.Finding.{version_has, is_committed_version, committed_has, own_has, is_in_way, blockers_among, is_version_for, counts_for, is_another, newest_has, takes, row_noted, taker_among}
use Rattle.unique_keys.specs.Checks.{committed_values, key_blockers, takes_key, taken_by}

any_noted : (p : Noted → Bool) (log : List Write) → list_any (λ w. p (noted_of w)) log ≡ list_any p (map noted_of log)
any_noted p [] = refl
any_noted p (w ∷ log) = ap (λ b. p (noted_of w) || b) (any_noted p log)

owners : (p : Noted → Bool) (log : List Write) → map (λ (w : Write). w.tx) (filter (λ w. p (noted_of w)) log) ≡ map (λ (n : Noted). n.tx) (filter p (map noted_of log))
owners p [] = refl
owners p (w ∷ log) = step (p (noted_of w)) (owners p log) where
  step : (b : Bool) → map (λ (v : Write). v.tx) (filter (λ v. p (noted_of v)) log) ≡ map (λ (n : Noted). n.tx) (filter p (map noted_of log))
      → map (λ (v : Write). v.tx) (cond b (w ∷ filter (λ v. p (noted_of v)) log) (filter (λ v. p (noted_of v)) log)) ≡ map (λ (n : Noted). n.tx) (cond b (noted_of w ∷ filter p (map noted_of log)) (filter p (map noted_of log)))
  step true so = ap (λ l. w.tx ∷ l) so
  step false so = so

found_noted : (p : Noted → Bool) (log : List Write) (behind : List Write) (noted : List Noted) → option_map noted_of (find (λ w. p (noted_of w)) behind) ≡ find p noted
    → option_map noted_of (find (λ w. p (noted_of w)) (reverse_aux log behind)) ≡ find p (reverse_aux (map noted_of log) noted)
found_noted p [] behind noted so = so
found_noted p (w ∷ log) behind noted so = found_noted p log (w ∷ behind) (noted_of w ∷ noted) (step (p (noted_of w)) so) where
  step : (b : Bool) → option_map noted_of (find (λ v. p (noted_of v)) behind) ≡ find p noted
      → option_map noted_of (cond b (Some w) (find (λ v. p (noted_of v)) behind)) ≡ cond b (Some (noted_of w)) (find p noted)
  step true so = refl
  step false so = so

version_of : (columns : List ℕ) (asked : List Value) (o : Option Write) → has_key columns asked (option_and_then (λ (w : Write). w.values) o) ≡ version_has columns asked (option_map noted_of o)
version_of columns asked None = refl
version_of columns asked (Some w) = refl

-- the last write that passes has the key where the last note that passes has it
last_has : (p : Noted → Bool) (columns : List ℕ) (asked : List Value) (log : List Write)
    → has_key columns asked (option_and_then (λ (w : Write). w.values) (find (λ w. p (noted_of w)) (reverse log))) ≡ version_has columns asked (find p (reverse (map noted_of log)))
last_has p columns asked log = version_of columns asked (find (λ w. p (noted_of w)) (reverse log)) ∙ ap (version_has columns asked) (found_noted p log [] [] refl)

first_left : (log : List Write) (n : ℕ) (w : Write) (later : List Write) → drop n log ≡ w ∷ later → slice_get log n ≡ Some w
first_left [] zero w later h = cc
first_left [] (suc n) w later h = cc
first_left (v ∷ log) zero w later h = ap (λ (l : List Write). slice_get l 0) h
first_left (v ∷ log) (suc n) w later h = first_left log n w later h

-- the values of the last write that passes are those at its place
placed : (c : Content) (p : Write → Bool) (n : ℕ) (log : List Write) → drop n c.log ≡ log → (behind : List (ℕ × Write)) (writes : List Write)
    → option_and_then (λ (e : ℕ × Write). values_at c e.0) (find (λ e. p e.1) behind) ≡ option_and_then (λ (w : Write). w.values) (find p writes)
    → option_and_then (λ (e : ℕ × Write). values_at c e.0) (find (λ e. p e.1) (reverse_aux (enumerate_from n log) behind)) ≡ option_and_then (λ (w : Write). w.values) (find p (reverse_aux log writes))
placed c p n [] h behind writes so = so
placed c p n (w ∷ log) h behind writes so =
    placed c p (n + 1) log (drop_next n (n + 1) c.log w log (omega arith) h) ((n, w) ∷ behind) (w ∷ writes) (step (p w) so) where
      step : (b : Bool) → option_and_then (λ (e : ℕ × Write). values_at c e.0) (find (λ e. p e.1) behind) ≡ option_and_then (λ (v : Write). v.values) (find p writes)
          → option_and_then (λ (e : ℕ × Write). values_at c e.0) (cond b (Some (n, w)) (find (λ e. p e.1) behind)) ≡ option_and_then (λ (v : Write). v.values) (cond b (Some w) (find p writes))
      step true so = ap (option_and_then (λ (v : Write). v.values)) (first_left c.log n w log h)
      step false so = so

seen_values : (c : Content) (row : RowId) (o : Option (ℕ × Write)) → (let seen : ℕ × Write → Seen = λ e. record { row = row; place = e.0 } in
    option_and_then (λ (s : Seen). values_at c s.place) (option_map seen o) ≡ option_and_then (λ (e : ℕ × Write). values_at c e.0) o)
seen_values c row None = refl
seen_values c row (Some e) = refl

newest_is : (c : Content) (row : RowId) (tx : TxId) (columns : List ℕ) (asked : List Value)
    → has_key columns asked (option_and_then (λ (s : Seen). values_at c s.place) (newest_of c row tx)) ≡ newest_has (has_committed c) (writes c) columns asked row tx
newest_is c row tx columns asked =
    ap (has_key columns asked) (seen_values c row _ ∙ placed c (λ w. (w.row.0 == row.0) && (has_committed c w.tx || same_tx w.tx tx)) 0 c.log refl [] [] refl)
    ∙ last_has (is_version_for (has_committed c) row tx) columns asked c.log

committed_is : (c : Content) (row : RowId) (columns : List ℕ) (asked : List Value) → has_key columns asked (committed_values c row) ≡ committed_has (has_committed c) (writes c) columns asked row
committed_is c row columns asked = last_has (is_committed_version (has_committed c) row) columns asked c.log

own_is : (c : Content) (row : RowId) (u : TxId) (columns : List ℕ) (asked : List Value)
    → list_any (λ v. (v.row.0 == row.0) && same_tx v.tx u && has_key columns asked v.values) c.log ≡ own_has (writes c) columns asked row u
own_is c row u columns asked = any_noted (λ v. ((v.row.0 == row.0) && same_tx v.tx u) && has_key columns asked v.values) c.log

and_assoc : (a b c : Bool) → (a && b && c) ≡ (a && (b && c))
and_assoc true b c = refl
and_assoc false b c = refl

stands_in_way : (c : Content) (table : TableId) (tx : TxId) (asked : List Value) (columns : List ℕ) (w : Write)
    → ((w.table.0 == table.0) && not (same_tx w.tx tx) && is_open c.fates w.tx && (has_key columns asked (committed_values c w.row) || list_any (λ v. (v.row.0 == w.row.0) && same_tx v.tx w.tx && has_key columns asked v.values) c.log))
    ≡ is_in_way (has_committed c) (is_open c.fates) (writes c) table columns asked tx (noted_of w)
stands_in_way c table tx asked columns w =
    ap (λ b. b && (has_key columns asked (committed_values c w.row) || list_any (λ v. (v.row.0 == w.row.0) && same_tx v.tx w.tx && has_key columns asked v.values) c.log)) (and_assoc (w.table.0 == table.0) (not (same_tx w.tx tx)) (is_open c.fates w.tx))
    ∙ ap (λ b. ((w.table.0 == table.0) && (not (same_tx w.tx tx) && is_open c.fates w.tx)) && (b || list_any (λ v. (v.row.0 == w.row.0) && same_tx v.tx w.tx && has_key columns asked v.values) c.log)) (committed_is c w.row columns asked)
    ∙ ap (λ b. ((w.table.0 == table.0) && (not (same_tx w.tx tx) && is_open c.fates w.tx)) && (committed_has (has_committed c) (writes c) columns asked w.row || b)) (own_is c w.row w.tx columns asked)

pub blockers_are : (c : Content) (table : TableId) (tx : TxId) (asked : List Value) (columns : List ℕ)
    → key_blockers c table tx asked columns ≡ blockers_among (has_committed c) (is_open c.fates) (writes c) table tx asked columns
blockers_are c table tx asked columns =
    ap (λ (test : Write → Bool). map (λ (w : Write). w.tx) (filter test c.log)) (fun_ext (stands_in_way c table tx asked columns))
    ∙ owners (is_in_way (has_committed c) (is_open c.fates) (writes c) table columns asked tx) c.log

and_three : (a b c d : Bool) → (a && b && c && d) ≡ (a && (b && (c && d)))
and_three true true c d = refl
and_three true false c d = refl
and_three false b c d = refl

takes_as_noted : (c : Content) (table : TableId) (tx : TxId) (except : Option RowId) (asked : List Value) (columns : List ℕ) (w : Write)
    → takes_key c table tx except asked columns w ≡ takes (has_committed c) (writes c) table tx except asked columns (noted_of w)
takes_as_noted c table tx except asked columns w =
    ap (λ b. b && has_key columns asked (option_and_then (λ (s : Seen). values_at c s.place) (newest_of c w.row tx)))
    (and_three (w.table.0 == table.0) (is_another except w.row) (has_committed c w.tx || same_tx w.tx tx) (has_key columns asked w.values))
    ∙ ap (λ b. ((w.table.0 == table.0) && (is_another except w.row && (counts_for (has_committed c) tx (noted_of w) && has_key columns asked w.values))) && b) (newest_is c w.row tx columns asked)

-- the row of the first write that passes is that of the first note that passes
abbrev pub row_written : Option Write → Option RowId
row_written o = option_map (λ (w : Write). w.row) o

row_of_first : (p : Noted → Bool) (log : List Write) → row_written (find (λ w. p (noted_of w)) log) ≡ row_noted (find p (map noted_of log))
row_of_first p [] = refl
row_of_first p (w ∷ log) = step (p (noted_of w)) (row_of_first p log) where
  step : (b : Bool) → row_written (find (λ v. p (noted_of v)) log) ≡ row_noted (find p (map noted_of log))
      → row_written (cond b (Some w) (find (λ v. p (noted_of v)) log)) ≡ row_noted (cond b (Some (noted_of w)) (find p (map noted_of log)))
  step true so = refl
  step false so = so

pub taker_is : (c : Content) (table : TableId) (tx : TxId) (except : Option RowId) (asked : List Value) (columns : List ℕ)
    → row_written (find (takes_key c table tx except asked columns) c.log) ≡ taker_among (has_committed c) (writes c) table tx except asked columns
taker_is c table tx except asked columns =
    ap (λ (test : Write → Bool). row_written (find test c.log)) (fun_ext (takes_as_noted c table tx except asked columns))
    ∙ row_of_first (takes (has_committed c) (writes c) table tx except asked columns) c.log

-- the version that has the key is the newest one of that row
pub taken_is : (c : Content) (table : TableId) (tx : TxId) (except : Option RowId) (asked : List Value) (columns : List ℕ)
    → taken_by c table tx except asked columns ≡ option_and_then (λ row. newest_of c row tx) (row_written (find (takes_key c table tx except asked columns) c.log))
taken_is c table tx except asked columns = by (find (takes_key c table tx except asked columns) c.log) where
  by : (o : Option Write) → option_and_then (λ (w : Write). newest_of c w.row tx) o ≡ option_and_then (λ row. newest_of c row tx) (row_written o)
  by None = refl
  by (Some w) = refl
