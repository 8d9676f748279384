-- What follows from the definitions. Each law stands on the contract of a function of `laws`.
use Rattle.std.specs.Prelude.{◌≡◌, ℕ, Bool, true, List, [], ◌∷◌, ◌++◌, Option, is_some, unwrap_or, slice_get}
use Rattle.std.specs.List.{list_all, list_any}
use Rattle.sql_values.specs.declared.value.Value.{Value}
use Rattle.sql_values.specs.declared.value.Value.TheVariants.{Null}
use Rattle.sql_values.specs.Values.{is_null}
use Rattle.row_versions.specs.declared.names.TxId.{TxId}
use Rattle.row_versions.specs.declared.names.RowId.{RowId}
use Rattle.row_versions.specs.declared.names.TableId.{TableId}
use Rattle.row_versions.specs.declared.write.Write.{Write}
use Rattle.row_versions.specs.Log.{Content, IsOpen, fate_of, empty_content, after_begin, after_commit, after_roll_back, after_write}
use Rattle.unique_keys.specs.declared.noted.Noted.{Noted}
use Rattle.unique_keys.specs.Writes.{noted_of, notes_without, IsUpToDate}
use Rattle.unique_keys.specs.Checks.{key_blockers, taken_by, IsFree}

-- the row has NULL in some column of the key
abbrev pub has_null : List ℕ → List Value → Bool
has_null columns asked = list_any (λ column. is_null (unwrap_or (slice_get asked column) Null)) columns

-- a key with a NULL is free, whatever is written (5.5.3)
abbrev pub NullIsFree : Type 0
NullIsFree = (c : Content) (table : TableId) (tx : TxId) (except : Option RowId) (asked : List Value) (columns : List ℕ) → has_null columns asked ≡ true
    → IsFree (key_blockers c table tx asked) (taken_by c table tx except asked) columns

-- each write's transaction has begun
abbrev pub have_begun : Content → Bool
have_begun c = list_all (λ w. is_some (fate_of c.fates w.tx)) c.log

-- an index that is up to date stays so where each write is noted and each transaction that is rolled back is forgotten
pub record StaysUpToDate (index : List Noted) (c : Content) : Type 0 where
  pub begins : have_begun c ≡ true → IsUpToDate index (after_begin c)
  pub writes : (w : Write) → IsOpen c w.tx → IsUpToDate (index ++ noted_of w ∷ []) (after_write c w)
  pub commits : (tx : TxId) → IsOpen c tx → IsUpToDate index (after_commit c tx)
  pub rolls_back : (tx : TxId) → IsOpen c tx → IsUpToDate (notes_without tx index) (after_roll_back c tx)

abbrev pub IndexKeepsUp : Type 0
IndexKeepsUp = IsUpToDate [] empty_content × ((index : List Noted) (c : Content) → IsUpToDate index c → StaysUpToDate index c)

-- the index keeps up with the log: it is up to date, and each write's transaction has begun, so that it stays up to date at a begin too
pub record KeepsUp (index : List Noted) (c : Content) : Type 0 where
  pub up_to_date : IsUpToDate index c
  pub begun : have_begun c ≡ true

-- an index that keeps up goes on to do so, also where a write can't be noted and its transaction is rolled back for that
pub record GoesOnUpToDate (index : List Noted) (c : Content) : Type 0 where
  pub begins : KeepsUp index (after_begin c)
  pub writes : (w : Write) → IsOpen c w.tx → KeepsUp (index ++ noted_of w ∷ []) (after_write c w)
  pub commits : (tx : TxId) → IsOpen c tx → KeepsUp index (after_commit c tx)
  pub rolls_back : (tx : TxId) → IsOpen c tx → KeepsUp (notes_without tx index) (after_roll_back c tx)
  pub takes_back : (w : Write) → IsOpen c w.tx → KeepsUp (notes_without w.tx index) (after_roll_back (after_write c w) w.tx)

abbrev pub IndexGoesOn : Type 0
IndexGoesOn = KeepsUp [] empty_content × ((index : List Noted) (c : Content) → KeepsUp index c → GoesOnUpToDate index c)
