-- A key with a NULL is had by no version.
use Rattle.std.proofs.Common.{◌≡◌, refl, sym, ◌∙◌, ap, Bool, true, false, cond, not, ◌||◌, ◌&&◌, ◌==◌, ℕ, List, [], ◌∷◌, map, filter}
use Rattle.std.specs.Prelude.{Option, Some, None, find, unwrap_or, slice_get}
use Rattle.std.specs.List.{list_any}
use Rattle.sql_values.specs.declared.value.Value.{Value}
use Rattle.sql_values.specs.declared.value.Value.TheVariants.{Null, Int, Big, Text, Bool as Boolean}
use Rattle.sql_values.specs.Values.{is_null}
use Rattle.row_versions.specs.declared.names.TxId.{TxId}
use Rattle.row_versions.specs.declared.names.RowId.{RowId}
use Rattle.row_versions.specs.declared.names.TableId.{TableId}
use Rattle.unique_keys.specs.declared.noted.Noted.{Noted}
use Rattle.row_versions.specs.Members.{same_tx}
use Rattle.unique_keys.specs.Keys.{has_key}
use Rattle.unique_keys.proofs.Equal.{agree_is}
use Rattle.unique_keys.specs.Inner.Finding.{are_equal, agree, last_of, version_has, is_committed_version, own_has, is_in_way, blockers_among, counts_for, is_version_for, is_another, row_noted, takes, taker_among}
use Rattle.unique_keys.specs.Laws.{has_null}

null_is_unequal : (asked other : Option Value) → is_null (unwrap_or asked Null) ≡ true → are_equal asked other ≡ false
null_is_unequal None other h = refl
null_is_unequal (Some a) None h = refl
null_is_unequal (Some Null) (Some b) h = refl
null_is_unequal (Some (Int z)) (Some b) h = cc
null_is_unequal (Some (Big z)) (Some b) h = cc
null_is_unequal (Some (Text s)) (Some b) h = cc
null_is_unequal (Some (Boolean v)) (Some b) h = cc

and_false : (b : Bool) → (b && false) ≡ false
and_false true = refl
and_false false = refl

null_disagrees : (columns : List ℕ) (asked values : List Value) → has_null columns asked ≡ true → agree columns asked values ≡ false
null_disagrees [] asked values h = cc
null_disagrees (k ∷ columns) asked values h = step (is_null (unwrap_or (slice_get asked k) Null)) refl h (λ t. null_disagrees columns asked values t) where
  step : (b : Bool) → is_null (unwrap_or (slice_get asked k) Null) ≡ b → (b || has_null columns asked) ≡ true → (has_null columns asked ≡ true → agree columns asked values ≡ false)
      → (are_equal (slice_get asked k) (slice_get values k) && agree columns asked values) ≡ false
  step true e t others = ap (λ v. v && agree columns asked values) (null_is_unequal (slice_get asked k) (slice_get values k) e)
  step false e t others = ap (λ v. are_equal (slice_get asked k) (slice_get values k) && v) (others t) ∙ and_false (are_equal (slice_get asked k) (slice_get values k))

null_is_had_by_none : (columns : List ℕ) (asked : List Value) → has_null columns asked ≡ true → (version : Option (List Value)) → has_key columns asked version ≡ false
null_is_had_by_none columns asked h None = refl
null_is_had_by_none columns asked h (Some values) = sym (agree_is columns asked values) ∙ null_disagrees columns asked values h

version_lacks : (columns : List ℕ) (asked : List Value) → has_null columns asked ≡ true → (w : Option Noted) → version_has columns asked w ≡ false
version_lacks columns asked h None = refl
version_lacks columns asked h (Some w) = null_is_had_by_none columns asked h w.values

any_none : (p : Noted → Bool) → ((w : Noted) → p w ≡ false) → (ws : List Noted) → list_any p ws ≡ false
any_none p h [] = refl
any_none p h (w ∷ ws) = ap (λ v. v || list_any p ws) (h w) ∙ any_none p h ws

filter_none : (p : Noted → Bool) → ((w : Noted) → p w ≡ false) → (ws : List Noted) → filter p ws ≡ []
filter_none p h [] = refl
filter_none p h (w ∷ ws) = ap (λ v. cond v (w ∷ filter p ws) (filter p ws)) (h w) ∙ filter_none p h ws

pub null_blocked_by_none : (committed active : TxId → Bool) (ws : List Noted) (table : TableId) (tx : TxId) (asked : List Value) (columns : List ℕ) → has_null columns asked ≡ true
    → blockers_among committed active ws table tx asked columns ≡ []
null_blocked_by_none committed active ws table tx asked columns h =
    ap (λ vs. map (λ (w : Noted). w.tx) vs) (filter_none (is_in_way committed active ws table columns asked tx) lacks ws) where
      own_lacks : (row : RowId) (u : TxId) → own_has ws columns asked row u ≡ false
      own_lacks row u =
          any_none (λ v. ((v.row.0 == row.0) && same_tx v.tx u) && has_key columns asked v.values)
          (λ v. ap (λ b. ((v.row.0 == row.0) && same_tx v.tx u) && b) (null_is_had_by_none columns asked h v.values) ∙ and_false ((v.row.0 == row.0) && same_tx v.tx u)) ws

      lacks : (w : Noted) → is_in_way committed active ws table columns asked tx w ≡ false
      lacks w =
          ap (λ v. ((w.table.0 == table.0) && (not (same_tx w.tx tx) && active w.tx)) && (v || own_has ws columns asked w.row w.tx)) (version_lacks columns asked h (last_of (is_committed_version committed w.row) ws))
          ∙ ap (λ v. ((w.table.0 == table.0) && (not (same_tx w.tx tx) && active w.tx)) && v) (own_lacks w.row w.tx)
          ∙ and_false ((w.table.0 == table.0) && (not (same_tx w.tx tx) && active w.tx))

find_none : (p : Noted → Bool) → ((w : Noted) → p w ≡ false) → (ws : List Noted) → find p ws ≡ None
find_none p h [] = refl
find_none p h (w ∷ ws) = ap (λ v. cond v (Some w) (find p ws)) (h w) ∙ find_none p h ws

pub null_taken_by_none : (committed : TxId → Bool) (ws : List Noted) (table : TableId) (tx : TxId) (except : Option RowId) (asked : List Value) (columns : List ℕ) → has_null columns asked ≡ true
    → taker_among committed ws table tx except asked columns ≡ None
null_taken_by_none committed ws table tx except asked columns h = ap row_noted (find_none (takes committed ws table tx except asked columns) lacks ws) where
  lacks : (w : Noted) → takes committed ws table tx except asked columns w ≡ false
  lacks w =
      let given = (w.table.0 == table.0) && (is_another except w.row && (counts_for committed tx w && has_key columns asked w.values)) in
      ap (λ v. given && v) (version_lacks columns asked h (last_of (is_version_for committed w.row tx) ws)) ∙ and_false given
