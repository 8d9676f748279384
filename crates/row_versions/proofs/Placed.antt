-- Where the rows of a view stand.
use Rattle.std.proofs.Common.{◌≡◌, ℕ, zero, suc, ◌<◌, true, false, ◌==◌, List, [], ◌∷◌, length, get_or, Contains, refl, ap, arith}
use Rattle.std.specs.List.{list_any}
use Rattle.std.proofs.lemmas.Bool.{eq-eqb, ne_eqb, or_from, or_left, or_right}
use Rattle.row_versions.specs.declared.names.TableId.{TableId}
use Rattle.row_versions.specs.declared.write.View.{View}
use Rattle.row_versions.specs.declared.write.Seen.{Seen}
use Rattle.row_versions.specs.Log.{Content}
use Rattle.row_versions.specs.Rows.{is_row, rows_of}
use Rattle.row_versions.specs.Laws.{IsShown}
use Rattle.row_versions.proofs.Shown.{rows_from_shown, shown_from_rows}

any_there : (rows : List Seen) (seen : Seen) (k : ℕ) → k < length rows → get_or rows k seen ≡ seen → list_any (λ (s : Seen). s.place == seen.place) rows ≡ true
any_there [] seen k l e = absurd (omega arith)
any_there (s ∷ rows) seen zero l e = or_left _ _ (eq-eqb s.place seen.place (ap (λ (s : Seen). s.place) e))
any_there (s ∷ rows) seen (suc k) l e = or_right _ _ (any_there rows seen k (omega arith) e)

none_there : (rows : List Seen) (place : ℕ) → ((seen : Seen) → Contains rows seen → seen.place ≡ place → ⊥) → list_any (λ (s : Seen). s.place == place) rows ≡ false
none_there [] place h = refl
none_there (s ∷ rows) place h =
    or_from _ _ (ne_eqb s.place place (h s (0, omega arith, refl))) (none_there rows place (λ seen there. h seen (suc there.0, omega (arith, there.1), there.2)))

-- a version that the view shows is a row
pub row_here : (c : Content) (view : View) (table : TableId) (seen : Seen) → IsShown c view table seen → is_row c view table seen.place ≡ true
row_here c view table seen h =
    let there = rows_from_shown c view table seen h in
    any_there (rows_of c view table) seen there.0 there.1 there.2

-- where it shows none at the place, no row stands there
pub no_row_here : (c : Content) (view : View) (table : TableId) (place : ℕ) → ((seen : Seen) → seen.place ≡ place → IsShown c view table seen → ⊥)
    → is_row c view table place ≡ false
no_row_here c view table place h = none_there (rows_of c view table) place (λ seen there e. h seen e (shown_from_rows c view table seen there))
