-- The rows of a view, write by write.
use Rattle.std.proofs.Common.{◌≡◌, ℕ, zero, suc, ◌+◌, ◌<◌, Bool, true, false, not, ◌&&◌, ◌||◌, cond, ◌==◌, List, [], ◌∷◌, drop, map, is_some, slice_get, refl, sym, ◌∙◌, ap, arith}
use Rattle.std.specs.Prelude.{filter}
use Rattle.std.specs.List.{list_any, enumerate_from}
use Rattle.std.specs.Option.{option_map_or}
use Rattle.std.proofs.lemmas.Bool.{or_from, eq-eqb, ne_eqb}
use Rattle.row_versions.specs.declared.names.TableId.{TableId}
use Rattle.row_versions.specs.declared.write.Write.{Write}
use Rattle.row_versions.specs.declared.write.View.{View}
use Rattle.row_versions.specs.declared.write.Seen.{Seen}
use Rattle.row_versions.specs.declared.write.Fate.{Fate}
use Rattle.row_versions.specs.Log.{Content}
use Rattle.row_versions.specs.View.{sees}
use Rattle.row_versions.specs.Rows.{is_row, is_shown, rows_of}
use Rattle.row_versions.specs.Inner.Searching.{replaces, shows, shows_at, rows_from}

-- what is left behind the first of what is left
pub drop_next : {X : Type 0} (n m : ℕ) (xs : List X) (x : X) (rest : List X) → m ≡ suc n → drop n xs ≡ x ∷ rest → drop m xs ≡ rest
drop_next n zero xs x rest e h = absurd (omega arith)
drop_next zero (suc m) [] x rest e h = cc
drop_next zero (suc m) (y ∷ xs) x rest e h =
    let none : m ≡ 0 = omega arith in
    ap (λ k. drop k xs) none ∙ ap (drop 1) h
drop_next (suc n) (suc m) [] x rest e h = cc
drop_next (suc n) (suc m) (y ∷ xs) x rest e h = drop_next n m xs x rest (omega arith) h

and_assoc : (a b c : Bool) → (a && b && c) ≡ (a && (b && c))
and_assoc true b c = refl
and_assoc false b c = refl

shown : (c : Content) (view : View) (table : TableId) (place : ℕ) (w : Write) (later : List Write) → drop (place + 1) c.log ≡ later
    → is_shown c view table place w ≡ shows c.fates view table w later
shown c view table place w later h =
    and_assoc ((w.table.0 == table.0) && is_some w.values) (sees c.fates view w) (not (list_any (replaces c.fates view w.row) (drop (place + 1) c.log)))
    ∙ ap (λ l. ((w.table.0 == table.0) && is_some w.values) && (sees c.fates view w && not (list_any (replaces c.fates view w.row) l))) h

abbrev seen_at : ℕ × Write → Seen
seen_at e = record { row = e.1.row; place = e.0 }

kept : (b t : Bool) (e : ℕ × Write) (rest : List (ℕ × Write)) (rows : List Seen) → b ≡ t → map seen_at rest ≡ rows
    → map seen_at (cond b (e ∷ rest) rest) ≡ cond t (seen_at e ∷ rows) rows
kept true b e rest rows h so = let yes : b ≡ true = sym h in rw yes (ap (λ l. seen_at e ∷ l) so)
kept false b e rest rows h so = let no : b ≡ false = sym h in rw no so

from : (c : Content) (view : View) (table : TableId) (place : ℕ) (ws : List Write) → drop place c.log ≡ ws
    → map seen_at (filter (λ e. is_shown c view table e.0 e.1) (enumerate_from place ws)) ≡ rows_from c.fates view table place ws
from c view table place [] h = refl
from c view table place (w ∷ later) h =
    let next : drop (place + 1) c.log ≡ later = drop_next place (place + 1) c.log w later (omega arith) h in
    kept (is_shown c view table place w) (shows c.fates view table w later) (place, w) _ _ (shown c view table place w later next) (from c view table (place + 1) later next)

pub rows_are : (c : Content) (view : View) (table : TableId) → rows_of c view table ≡ rows_from c.fates view table 0 c.log
rows_are c view table = from c view table 0 c.log refl

-- whether the write at the place, if there is one, is shown among the writes from that place on
abbrev shown_at : List Fate → View → TableId → List Write → ℕ → Bool
shown_at fates view table ws k = option_map_or (λ w. shows fates view table w (drop (suc k) ws)) (slice_get ws k) false

-- a row that stands at another place adds nothing
any_cond : (b : Bool) (s : Seen) (rows : List Seen) (k : ℕ) → (s.place == k) ≡ false → list_any (λ (s : Seen). s.place == k) rows ≡ false
    → list_any (λ (s : Seen). s.place == k) (cond b (s ∷ rows) rows) ≡ false
any_cond true s rows k other none = or_from _ _ other none
any_cond false s rows k other none = none

-- the rows of the rest stand behind a place before it
none_before : (fates : List Fate) (view : View) (table : TableId) (k place : ℕ) (ws : List Write) → k < place
    → list_any (λ (s : Seen). s.place == k) (rows_from fates view table place ws) ≡ false
none_before fates view table k place [] l = refl
none_before fates view table k place (w ∷ later) l =
    any_cond (shows fates view table w later) (record { row = w.row; place = place }) _ k (ne_eqb place k (λ e. absurd (omega (arith, e)))) (none_before fates view table k (place + 1) later (omega arith))

-- a row that stands at the place is the row that is looked for
first_cond : (b : Bool) (s : Seen) (rows : List Seen) (k : ℕ) → (s.place == k) ≡ true → list_any (λ (s : Seen). s.place == k) rows ≡ false
    → list_any (λ (s : Seen). s.place == k) (cond b (s ∷ rows) rows) ≡ b
first_cond true s rows k here none = ap (λ b. b || list_any (λ (s : Seen). s.place == k) rows) here
first_cond false s rows k here none = none

later_cond : (b : Bool) (s : Seen) (rows : List Seen) (k : ℕ) → (s.place == k) ≡ false
    → list_any (λ (s : Seen). s.place == k) (cond b (s ∷ rows) rows) ≡ list_any (λ (s : Seen). s.place == k) rows
later_cond true s rows k other = ap (λ b. b || list_any (λ (s : Seen). s.place == k) rows) other
later_cond false s rows k other = refl

any_from : (fates : List Fate) (view : View) (table : TableId) (place : ℕ) (ws : List Write) (n k : ℕ) → n ≡ place + k
    → list_any (λ (s : Seen). s.place == n) (rows_from fates view table place ws) ≡ shown_at fates view table ws k
any_from fates view table place [] n k e = refl
any_from fates view table place (w ∷ later) n zero e =
    first_cond (shows fates view table w later) (record { row = w.row; place = place }) (rows_from fates view table (place + 1) later) n (eq-eqb place n (omega (arith, e)))
    (none_before fates view table n (place + 1) later (omega (arith, e)))
any_from fates view table place (w ∷ later) n (suc k) e =
    later_cond (shows fates view table w later) (record { row = w.row; place = place }) (rows_from fates view table (place + 1) later) n (ne_eqb place n (λ same. absurd (omega (arith, e, same))))
    ∙ any_from fates view table (place + 1) later n k (omega (arith, e))

pub is_row_where_shown : (c : Content) (view : View) (table : TableId) (place : ℕ) → is_row c view table place ≡ shows_at c.fates view table c.log place
is_row_where_shown c view table place =
    let behind : suc place ≡ place + 1 = omega arith in
    ap (list_any (λ (s : Seen). s.place == place)) (rows_are c view table) ∙ any_from c.fates view table 0 c.log place place (omega arith)
    ∙ ap (λ n. option_map_or (λ w. shows c.fates view table w (drop n c.log)) (slice_get c.log place) false) behind
