-- Who stands in the way of a key while a transaction writes, and once it has ended.
use Rattle.std.proofs.Common.{◌≡◌, refl, sym, ◌∙◌, ap, subst, inl, inr, ⊎_elim, Bool, true, false, ◌&&◌, ◌||◌, ◌==◌, not, cond, ℕ, zero, suc, ◌<◌, List, [], ◌∷◌, ◌++◌, length, map, filter, find, set}
use Rattle.std.specs.Prelude.{Option, Some, None, slice_get}
use Rattle.std.specs.List.{list_any}
use Rattle.std.proofs.lemmas.Bool.{cases_eq, eqb-true}
use Rattle.std.proofs.lemmas.Option.{slice_get_within}
use mathlib.Core.List.{reverse_aux}
use Rattle.sql_values.specs.declared.value.Value.{Value}
use Rattle.row_versions.specs.declared.names.TxId.{TxId}
use Rattle.row_versions.specs.declared.names.RowId.{RowId}
use Rattle.row_versions.specs.declared.write.Write.{Write}
use Rattle.row_versions.specs.declared.write.Fate.{Fate}
use Rattle.row_versions.specs.declared.write.Fate.TheVariants.{RolledBack, Committed, Open as OpenFate}
use Rattle.row_versions.specs.Log.{Content, IsOpen, commit_count, fate_of, has_committed, after_begin, after_write, after_commit, after_roll_back, is_open, is_open_fate}
use Rattle.row_versions.specs.Inner.Searching.{is_committed}
use Rattle.row_versions.proofs.Gets.{get-append_left}
use Rattle.row_versions.specs.Members.{has, same_tx, is_none_of}
use Rattle.row_locks.proofs.Cases.{or_cases, or_left, or_right, and_both, both_and, is_same, same_is}
use Rattle.unique_keys.specs.declared.noted.Noted.{Noted}
use Rattle.unique_keys.specs.Keys.{has_key}
use Rattle.unique_keys.specs.Writes.{noted_of, writes}
use Rattle.unique_keys.specs.Inner.Finding.{version_has, is_committed_version, committed_has, own_has, is_in_way}
use Rattle.unique_keys.specs.Checks.{key_blockers}
use Rattle.unique_keys.proofs.Logged.{blockers_are}
use Rattle.session_machine.specs.AskedKeys.{AskedKey}
use Rattle.session_laws.proofs.Lists.{slice_get-set_same, slice_get-set_other}
use Rattle.wait_laws.proofs.Lists.{get_more}

-- who blocks the key
abbrev pub blocking : Content → AskedKey → TxId → List TxId
blocking c k tx = key_blockers c k.table tx k.values k.columns

-- the write stands in the way of the key
abbrev ways : Content → AskedKey → TxId → Noted → Bool
ways c k tx = is_in_way (has_committed c) (is_open c.fates) (writes c) k.table k.columns k.values tx

no_write : (w : Write) → None ≡ Some w → ⊥
no_write w h = cc

same_write : (v w : Write) → Some v ≡ Some w → v ≡ w
same_write v w h = cc

false_true : (b : Bool) → b ≡ false → b ≡ true → ⊥
false_true true h k = cc
false_true false h k = cc

-- ---- who blocks has a write that stands in the way

record Found (p : Noted → Bool) (log : List Write) (u : TxId) : Type 0 where
  pub place : ℕ
  pub write : Write
  pub there : slice_get log place ≡ Some write
  pub its : write.tx ≡ u
  pub passes : p (noted_of write) ≡ true

abbrev owners : (Noted → Bool) → List Write → List TxId
owners p log = map (λ (n : Noted). n.tx) (filter p (map noted_of log))

found_from : (p : Noted → Bool) (log : List Write) (u : TxId) → has (owners p log) u ≡ true → Found p log u
found_from p [] u h = absurd (false_true false refl h)
found_from p (w ∷ log) u h = at (found_from p log u) (p (noted_of w)) refl h where
  later : Found p log u → Found p (w ∷ log) u
  later f = record { place = suc f.place; write = f.write; there = f.there; its = f.its; passes = f.passes }

  at : (has (owners p log) u ≡ true → Found p log u) → (b : Bool) → p (noted_of w) ≡ b
      → has (map (λ (n : Noted). n.tx) (cond b (noted_of w ∷ filter p (map noted_of log)) (filter p (map noted_of log)))) u ≡ true → Found p (w ∷ log) u
  at on true e k = elim (or_cases (same_tx w.tx u) (has (owners p log) u) k) [
    | inl m ↦ record { place = zero; write = w; there = refl; its = same_is w.tx u m; passes = e }
    | inr m ↦ later (on m)
  ]
  at on false e k = later (on k)

found_to : (p : Noted → Bool) (log : List Write) (u : TxId) (place : ℕ) (w : Write) → slice_get log place ≡ Some w → w.tx ≡ u → p (noted_of w) ≡ true → has (owners p log) u ≡ true
found_to p [] u place w there its e = absurd (no_write w there)
found_to p (v ∷ log) u zero w there its e =
    let is = same_write v w there in
    let passes : p (noted_of v) ≡ true = ap (λ (y : Write). p (noted_of y)) is ∙ e in
    let own : same_tx v.tx u ≡ true = subst (λ (y : TxId). same_tx v.tx y ≡ true) (ap (λ (y : Write). y.tx) is ∙ its) (is_same v.tx) in
    subst (λ b. has (map (λ (n : Noted). n.tx) (cond b (noted_of v ∷ filter p (map noted_of log)) (filter p (map noted_of log)))) u ≡ true) (sym passes)
    (or_left (same_tx v.tx u) (has (owners p log) u) own)
found_to p (v ∷ log) u (suc place) w there its e = at (p (noted_of v)) (found_to p log u place w there its e) where
  at : (b : Bool) → has (owners p log) u ≡ true → has (map (λ (n : Noted). n.tx) (cond b (noted_of v ∷ filter p (map noted_of log)) (filter p (map noted_of log)))) u ≡ true
  at true k = or_right (same_tx v.tx u) (has (owners p log) u) k
  at false k = k

-- who blocks the key has a write that stands in its way
blocks_from : (c : Content) (k : AskedKey) (tx u : TxId) → has (blocking c k tx) u ≡ true → Found (ways c k tx) c.log u
blocks_from c k tx u h = found_from (ways c k tx) c.log u (subst (λ us. has us u ≡ true) (blockers_are c k.table tx k.values k.columns) h)

blocks_to : (c : Content) (k : AskedKey) (tx u : TxId) (place : ℕ) (w : Write) → slice_get c.log place ≡ Some w → w.tx ≡ u → ways c k tx (noted_of w) ≡ true → has (blocking c k tx) u ≡ true
blocks_to c k tx u place w there its e = subst (λ us. has us u ≡ true) (sym (blockers_are c k.table tx k.values k.columns)) (found_to (ways c k tx) c.log u place w there its e)

-- ---- what of it may change

way_kept : (c d : Content) (k : AskedKey) (tx : TxId) (w : Write) → (is_open c.fates w.tx ≡ true → is_open d.fates w.tx ≡ true)
    → committed_has (has_committed c) (writes c) k.columns k.values w.row ≡ committed_has (has_committed d) (writes d) k.columns k.values w.row
    → (own_has (writes c) k.columns k.values w.row w.tx ≡ true → own_has (writes d) k.columns k.values w.row w.tx ≡ true)
    → ways c k tx (noted_of w) ≡ true → ways d k tx (noted_of w) ≡ true
way_kept c d k tx w active same own h =
    let table : Bool = w.table.0 == k.table.0 in
    let other : Bool = not (same_tx w.tx tx) in
    let newest_c = committed_has (has_committed c) (writes c) k.columns k.values w.row in
    let newest_d = committed_has (has_committed d) (writes d) k.columns k.values w.row in
    let own_c = own_has (writes c) k.columns k.values w.row w.tx in
    let own_d = own_has (writes d) k.columns k.values w.row w.tx in
    let a = and_both (table && (other && is_open c.fates w.tx)) (newest_c || own_c) h in
    let b = and_both table (other && is_open c.fates w.tx) a.0 in
    let o = and_both other (is_open c.fates w.tx) b.1 in
    both_and (table && (other && is_open d.fates w.tx)) (newest_d || own_d) (both_and table (other && is_open d.fates w.tx) b.0 (both_and other (is_open d.fates w.tx) o.0 (active o.1)))
    (⊎_elim (λ m. or_left newest_d own_d (sym same ∙ m)) (λ m. or_right newest_d own_d (own m)) (or_cases newest_c own_c a.1))

-- it is open
active_in : (c : Content) (k : AskedKey) (tx : TxId) (w : Write) → ways c k tx (noted_of w) ≡ true → is_open c.fates w.tx ≡ true
active_in c k tx w h =
    let table : Bool = w.table.0 == k.table.0 in
    let other : Bool = not (same_tx w.tx tx) in
    let a = and_both (table && (other && is_open c.fates w.tx)) _ h in
    let b = and_both table (other && is_open c.fates w.tx) a.0 in
    (and_both other (is_open c.fates w.tx) b.1).1

open_is : (o : Option Fate) → is_open_fate o ≡ true → o ≡ Some OpenFate
open_is None h = cc
open_is (Some OpenFate) h = refl
open_is (Some RolledBack) h = cc
open_is (Some (Committed k)) h = cc

is_open_is : (c : Content) (u : TxId) → IsOpen c u → is_open c.fates u ≡ true
is_open_is c u h = ap is_open_fate h

uncommitted : (c : Content) (u : TxId) → IsOpen c u → has_committed c u ≡ false
uncommitted c u h = ap is_committed h

-- the last that passes is one where two tests agree on all
find_same : (p q : Noted → Bool) (log : List Write) (behind : List Noted) → ((place : ℕ) (w : Write) → slice_get log place ≡ Some w → p (noted_of w) ≡ q (noted_of w)) → find p behind ≡ find q behind
    → find p (reverse_aux (map noted_of log) behind) ≡ find q (reverse_aux (map noted_of log) behind)
find_same p q [] behind each same = same
find_same p q (w ∷ log) behind each same = find_same p q log (noted_of w ∷ behind) (λ place v there. each (suc place) v there) (λ i. cond (each zero w refl i) (Some (noted_of w)) (same i))

find_more : (p : Noted → Bool) (log : List Write) (w : Write) (behind : List Noted) → p (noted_of w) ≡ false
    → find p (reverse_aux (map noted_of (log ++ w ∷ [])) behind) ≡ find p (reverse_aux (map noted_of log) behind)
find_more p [] w behind fails = ap (λ b. cond b (Some (noted_of w)) (find p behind)) fails
find_more p (v ∷ log) w behind fails = find_more p log w (noted_of v ∷ behind) fails

and_same : (b x y : Bool) → (b ≡ true → x ≡ y) → (b && x) ≡ (b && y)
and_same true x y h = h refl
and_same false x y h = refl

and_false : (b x : Bool) → x ≡ false → (b && x) ≡ false
and_false true x h = h
and_false false x h = refl

committed_as : (a b : TxId → Bool) (log : List Write) (columns : List ℕ) (values : List Value) (row : RowId)
    → ((place : ℕ) (w : Write) → slice_get log place ≡ Some w → (w.row.0 == row.0) ≡ true → a w.tx ≡ b w.tx)
    → committed_has a (map noted_of log) columns values row ≡ committed_has b (map noted_of log) columns values row
committed_as a b log columns values row each =
    ap (version_has columns values)
    (find_same (is_committed_version a row) (is_committed_version b row) log [] (λ place w there. and_same (w.row.0 == row.0) (a w.tx) (b w.tx) (each place w there)) refl)

committed_more : (a : TxId → Bool) (log : List Write) (w : Write) (columns : List ℕ) (values : List Value) (row : RowId) → a w.tx ≡ false
    → committed_has a (map noted_of (log ++ w ∷ [])) columns values row ≡ committed_has a (map noted_of log) columns values row
committed_more a log w columns values row open_now = ap (version_has columns values) (find_more (is_committed_version a row) log w [] (and_false (w.row.0 == row.0) (a w.tx) open_now))

any_more : (p : Noted → Bool) (log : List Write) (w : Write) → list_any p (map noted_of log) ≡ true → list_any p (map noted_of (log ++ w ∷ [])) ≡ true
any_more p [] w h = absurd (false_true false refl h)
any_more p (v ∷ log) w h =
    ⊎_elim (λ m. or_left (p (noted_of v)) (list_any p (map noted_of (log ++ w ∷ []))) m)
    (λ m. or_right (p (noted_of v)) (list_any p (map noted_of (log ++ w ∷ []))) (any_more p log w m)) (or_cases (p (noted_of v)) (list_any p (map noted_of log)) h)

any_less : (p : Noted → Bool) (log : List Write) (w : Write) → p (noted_of w) ≡ false → list_any p (map noted_of (log ++ w ∷ [])) ≡ true → list_any p (map noted_of log) ≡ true
any_less p [] w fails h = ⊎_elim (λ m. absurd (false_true (p (noted_of w)) fails m)) (λ m. m) (or_cases (p (noted_of w)) false h)
any_less p (v ∷ log) w fails h =
    ⊎_elim (λ m. or_left (p (noted_of v)) (list_any p (map noted_of log)) m)
    (λ m. or_right (p (noted_of v)) (list_any p (map noted_of log)) (any_less p log w fails m)) (or_cases (p (noted_of v)) (list_any p (map noted_of (log ++ w ∷ []))) h)

-- ---- a transaction writes: it may block more keys, and nobody else does

not_of_other : (w : Write) (row : RowId) (u : TxId) (columns : List ℕ) (values : List Value) → (w.tx ≡ u → ⊥)
    → (((w.row.0 == row.0) && same_tx w.tx u) && has_key columns values w.values) ≡ false
not_of_other w row u columns values ne = by (w.row.0 == row.0) (same_tx w.tx u) refl where
  by : (b y : Bool) → same_tx w.tx u ≡ y → ((b && y) && has_key columns values w.values) ≡ false
  by b true e = absurd (ne (same_is w.tx u e))
  by true false e = refl
  by false false e = refl

pub less_written : (c : Content) (w : Write) (k : AskedKey) (tx u : TxId) → IsOpen c w.tx → (u ≡ w.tx → ⊥) → has (blocking (after_write c w) k tx) u ≡ true → has (blocking c k tx) u ≡ true
less_written c w k tx u is_open_now ne h =
    let f = blocks_from (after_write c w) k tx u h in
    ⊎_elim
    (λ at. blocks_to c k tx u f.place f.write at f.its
    (way_kept (after_write c w) c k tx f.write (λ o. o) (committed_more (has_committed c) c.log w k.columns k.values f.write.row (uncommitted c w.tx is_open_now))
    (any_less _ c.log w (not_of_other w f.write.row f.write.tx k.columns k.values (λ e. ne (sym (e ∙ f.its))))) f.passes))
    (λ is. absurd (ne (sym (ap (λ (y : Write). y.tx) is.1 ∙ f.its))))
    (get_more c.log w f.place f.write f.there)

pub more_written : (c : Content) (w : Write) (k : AskedKey) (tx u : TxId) → IsOpen c w.tx → has (blocking c k tx) u ≡ true → has (blocking (after_write c w) k tx) u ≡ true
more_written c w k tx u is_open_now h =
    let f = blocks_from c k tx u h in
    blocks_to (after_write c w) k tx u f.place f.write (get-append_left c.log (w ∷ []) f.place (slice_get_within c.log f.place f.write f.there) ∙ f.there) f.its
    (way_kept c (after_write c w) k tx f.write (λ o. o) (sym (committed_more (has_committed c) c.log w k.columns k.values f.write.row (uncommitted c w.tx is_open_now)))
    (any_more _ c.log w) f.passes)

-- ---- one begins: nobody blocks more or less

-- each write's transaction has begun
abbrev pub AllBegun : Content → Type 0
AllBegun c = (place : ℕ) (w : Write) → slice_get c.log place ≡ Some w → w.tx.0 < length c.fates

fate_kept : (c : Content) (u : TxId) → u.0 < length c.fates → fate_of (after_begin c).fates u ≡ fate_of c.fates u
fate_kept c u l = get-append_left c.fates (OpenFate ∷ []) u.0 l

pub less_begun : (c : Content) (k : AskedKey) (tx u : TxId) → AllBegun c → has (blocking (after_begin c) k tx) u ≡ true → has (blocking c k tx) u ≡ true
less_begun c k tx u known h =
    let f = blocks_from (after_begin c) k tx u h in
    blocks_to c k tx u f.place f.write f.there f.its
    (way_kept (after_begin c) c k tx f.write (λ o. sym (ap is_open_fate (fate_kept c f.write.tx (known f.place f.write f.there))) ∙ o)
    (committed_as (has_committed (after_begin c)) (has_committed c) c.log k.columns k.values f.write.row (λ place w there at. ap is_committed (fate_kept c w.tx (known place w there)))) (λ o. o) f.passes)

pub more_begun : (c : Content) (k : AskedKey) (tx u : TxId) → AllBegun c → has (blocking c k tx) u ≡ true → has (blocking (after_begin c) k tx) u ≡ true
more_begun c k tx u known h =
    let f = blocks_from c k tx u h in
    blocks_to (after_begin c) k tx u f.place f.write f.there f.its
    (way_kept c (after_begin c) k tx f.write (λ o. ap is_open_fate (fate_kept c f.write.tx (known f.place f.write f.there)) ∙ o)
    (committed_as (has_committed c) (has_committed (after_begin c)) c.log k.columns k.values f.write.row (λ place w there at. sym (ap is_committed (fate_kept c w.tx (known place w there))))) (λ o. o) f.passes)

-- ---- one ends: of the others nobody blocks more, and nobody less

-- no two open transactions wrote one row
abbrev pub AreApart : Content → Type 0
AreApart c = (i j : ℕ) (v w : Write) → slice_get c.log i ≡ Some v → slice_get c.log j ≡ Some w → IsOpen c v.tx → IsOpen c w.tx → v.row.0 ≡ w.row.0 → v.tx ≡ w.tx

abbrev ended : Content → TxId → Fate → Content
ended c x fate = record c { fates = set c.fates x.0 fate }

less_ended : (c : Content) (x : TxId) (fate : Fate) (k : AskedKey) (tx u : TxId) → (u ≡ x → ⊥)
    → ((v : Write) (i : ℕ) → slice_get c.log i ≡ Some v → IsOpen c v.tx → (v.tx ≡ x → ⊥) → (place : ℕ) (w : Write) → slice_get c.log place ≡ Some w → (w.row.0 == v.row.0) ≡ true
    → has_committed (ended c x fate) w.tx ≡ has_committed c w.tx)
    → has (blocking (ended c x fate) k tx) u ≡ true → has (blocking c k tx) u ≡ true
less_ended c x fate k tx u ne same h =
    let f = blocks_from (ended c x fate) k tx u h in
    let other : f.write.tx ≡ x → ⊥ = λ e. ne (sym f.its ∙ e) in
    let mk : ℕ → TxId = λ n. record { 0 = n } in
    let fates : slice_get (set c.fates x.0 fate) f.write.tx.0 ≡ slice_get c.fates f.write.tx.0 = slice_get-set_other c.fates x.0 f.write.tx.0 fate (λ e. other (ap mk e)) in
    let was_open : is_open c.fates f.write.tx ≡ true = sym (ap is_open_fate fates) ∙ active_in (ended c x fate) k tx f.write f.passes in
    blocks_to c k tx u f.place f.write f.there f.its
    (way_kept (ended c x fate) c k tx f.write (λ o. was_open)
    (committed_as (has_committed (ended c x fate)) (has_committed c) c.log k.columns k.values f.write.row (same f.write f.place f.there (open_is _ was_open) other)) (λ o. o) f.passes)

more_ended : (c : Content) (x : TxId) (fate : Fate) (k : AskedKey) (tx u : TxId) → (u ≡ x → ⊥)
    → ((v : Write) (i : ℕ) → slice_get c.log i ≡ Some v → IsOpen c v.tx → (v.tx ≡ x → ⊥) → (place : ℕ) (w : Write) → slice_get c.log place ≡ Some w → (w.row.0 == v.row.0) ≡ true
    → has_committed (ended c x fate) w.tx ≡ has_committed c w.tx)
    → has (blocking c k tx) u ≡ true → has (blocking (ended c x fate) k tx) u ≡ true
more_ended c x fate k tx u ne same h =
    let f = blocks_from c k tx u h in
    let other : f.write.tx ≡ x → ⊥ = λ e. ne (sym f.its ∙ e) in
    let mk : ℕ → TxId = λ n. record { 0 = n } in
    let fates : slice_get (set c.fates x.0 fate) f.write.tx.0 ≡ slice_get c.fates f.write.tx.0 = slice_get-set_other c.fates x.0 f.write.tx.0 fate (λ e. other (ap mk e)) in
    let was_open : is_open c.fates f.write.tx ≡ true = active_in c k tx f.write f.passes in
    blocks_to (ended c x fate) k tx u f.place f.write f.there f.its
    (way_kept c (ended c x fate) k tx f.write (λ o. ap is_open_fate fates ∙ o)
    (committed_as (has_committed c) (has_committed (ended c x fate)) c.log k.columns k.values f.write.row
    (λ place w there at. sym (same f.write f.place f.there (open_is _ was_open) other place w there at))) (λ o. o) f.passes)

rolled_back_as : (c : Content) (x : TxId) → IsOpen c x → (w : Write) → has_committed (after_roll_back c x) w.tx ≡ has_committed c w.tx
rolled_back_as c x is_open_now w = ⊎_elim
    (λ (e : w.tx.0 ≡ x.0).
    ap (λ n. is_committed (slice_get (set c.fates x.0 RolledBack) n)) e
    ∙ (ap is_committed (slice_get-set_same c.fates x.0 RolledBack (slice_get_within c.fates x.0 OpenFate is_open_now)) ∙ sym (ap (λ n. is_committed (slice_get c.fates n)) e ∙ ap is_committed is_open_now)))
    (λ other. ap is_committed (slice_get-set_other c.fates x.0 w.tx.0 RolledBack other))
    (cases_eq w.tx.0 x.0)

pub less_rolled_back : (c : Content) (x : TxId) (k : AskedKey) (tx u : TxId) → IsOpen c x → (u ≡ x → ⊥) → has (blocking (after_roll_back c x) k tx) u ≡ true → has (blocking c k tx) u ≡ true
less_rolled_back c x k tx u is_open_now ne h = less_ended c x RolledBack k tx u ne (λ v i at o other place w there row. rolled_back_as c x is_open_now w) h

pub more_rolled_back : (c : Content) (x : TxId) (k : AskedKey) (tx u : TxId) → IsOpen c x → (u ≡ x → ⊥) → has (blocking c k tx) u ≡ true → has (blocking (after_roll_back c x) k tx) u ≡ true
more_rolled_back c x k tx u is_open_now ne h = more_ended c x RolledBack k tx u ne (λ v i at o other place w there row. rolled_back_as c x is_open_now w) h

committed_at : (c : Content) (x : TxId) → IsOpen c x → AreApart c → (v : Write) (i : ℕ) → slice_get c.log i ≡ Some v → IsOpen c v.tx → (v.tx ≡ x → ⊥)
    → (place : ℕ) (w : Write) → slice_get c.log place ≡ Some w → (w.row.0 == v.row.0) ≡ true → has_committed (after_commit c x) w.tx ≡ has_committed c w.tx
committed_at c x is_open_now apart v i at o other place w there row = ⊎_elim
    (λ (e : w.tx.0 ≡ x.0).
    let mk : ℕ → TxId = λ n. record { 0 = n } in
    let its : w.tx ≡ x = ap mk e in
    absurd (other (sym (apart place i w v there at (subst (IsOpen c) (sym its) is_open_now) o (eqb-true w.row.0 v.row.0 row)) ∙ its)))
    (λ ne. ap is_committed (slice_get-set_other c.fates x.0 w.tx.0 (Committed (commit_count c)) ne))
    (cases_eq w.tx.0 x.0)

pub less_committed : (c : Content) (x : TxId) (k : AskedKey) (tx u : TxId) → IsOpen c x → AreApart c → (u ≡ x → ⊥) → has (blocking (after_commit c x) k tx) u ≡ true → has (blocking c k tx) u ≡ true
less_committed c x k tx u is_open_now apart ne h = less_ended c x (Committed (commit_count c)) k tx u ne (committed_at c x is_open_now apart) h

pub more_committed : (c : Content) (x : TxId) (k : AskedKey) (tx u : TxId) → IsOpen c x → AreApart c → (u ≡ x → ⊥) → has (blocking c k tx) u ≡ true → has (blocking (after_commit c x) k tx) u ≡ true
more_committed c x k tx u is_open_now apart ne h = more_ended c x (Committed (commit_count c)) k tx u ne (committed_at c x is_open_now apart) h

-- who blocks a key is open
pub blocker_is_open : (c : Content) (k : AskedKey) (tx u : TxId) → has (blocking c k tx) u ≡ true → IsOpen c u
blocker_is_open c k tx u h = let f = blocks_from c k tx u h in subst (IsOpen c) f.its (open_is _ (active_in c k tx f.write f.passes))

-- ---- a list of blockers

pub some_has : (bs : List TxId) → not (is_none_of bs) ≡ true → (u : TxId) × (has bs u ≡ true)
some_has [] h = absurd (false_true false refl h)
some_has (b ∷ bs) h = (b, or_left (same_tx b b) (has bs b) (is_same b))

pub some_of : (bs : List TxId) (u : TxId) → has bs u ≡ true → not (is_none_of bs) ≡ true
some_of [] u h = cc
some_of (t ∷ bs) u h = refl
