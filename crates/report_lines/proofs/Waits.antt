-- The list of waiting entries over the lines.
use Rattle.std.proofs.Common.{◌≡◌, length, ℕ, zero, suc, ◌+◌, ◌<◌, ◌≤◌, List, [], ◌∷◌, ◌++◌, refl, ap, sym, ◌∙◌, arith, true, false, Bool, not, cond, ◌==◌, ◌||◌, ◌&&◌, add-one, ◌⊎◌, inl, inr, ◌-◌, append-nil, Option, Some, None, slice_get}
use Rattle.std.specs.List.{list_any, filter, fold}
use Rattle.std.specs.Option.{option_map_or}
use Rattle.std.proofs.lemmas.List.Folds.{list_any-append}
use Rattle.std.proofs.lemmas.List.Elements.{filter-append}
use Rattle.std.proofs.lemmas.List.Sums.{fold-append}
use Rattle.std.proofs.Math.Bool.{or-false}
use Rattle.std.proofs.lemmas.Bool.{cases_lt}
use Rattle.report_lines.specs.declared.history.Line.{Line}
use Rattle.report_lines.specs.declared.history.Line.TheVariants.{AtOnce, Waiting, Completed}
use Rattle.report_lines.specs.declared.history.Moment.{Moment}
use Rattle.spec_parser.specs.Trees.{EntryTree}
use Rattle.spec_parser.specs.declared.tree.Marker.{Marker}
use Rattle.report_lines.specs.History.{PermutationRun}
use Rattle.report_lines.specs.Code.Walk.{names, is_awaited, markers_of}
use Rattle.report_lines.specs.Report.{reports, active}
use Rattle.report_lines.specs.Code.Walk.{polled, polls_again}
use Rattle.report_lines.specs.Inner.Trying.{is_marked, instances, pass}
use Rattle.report_lines.specs.Inner.Waiting.{is_reported, IsKept}
use Rattle.report_lines.proofs.Rising.{instances_more}

pub reported_push : (lines : List Line) (l : Line) (i : ℕ) → is_reported (lines ++ l ∷ []) i ≡ (is_reported lines i || reports i l)
reported_push lines l i = list_any-append (reports i) lines (l ∷ []) ∙ ap (λ b. is_reported lines i || b) (or-false (reports i l))

filter_step : (q : ℕ → Bool) (a : Bool) (x : ℕ) (ys zs : List ℕ) → ys ≡ filter q zs → cond (a && q x) (x ∷ ys) ys ≡ filter q (cond a (x ∷ zs) zs)
filter_step q true x ys zs h = ap (λ (w : List ℕ). cond (q x) (x ∷ w) w) h
filter_step q false x ys zs h = h

filter_and : (p q r : ℕ → Bool) → ((x : ℕ) → r x ≡ (p x && q x)) → (xs : List ℕ) → filter r xs ≡ filter q (filter p xs)
filter_and p q r h [] = refl
filter_and p q r h (x ∷ xs) =
    ap (λ (b : Bool). cond b (x ∷ filter r xs) (filter r xs)) (h x) ∙ filter_step q (p x) x (filter r xs) (filter p xs) (filter_and p q r h xs)

not_or : (a b : Bool) → not (a || b) ≡ (not a && not b)
not_or true b = refl
not_or false b = refl

pub active_leave : (lines : List Line) (e s n : ℕ) → active (lines ++ Completed e s ∷ []) n ≡ filter (λ j. not (j == e)) (active lines n)
active_leave lines e s n =
    filter_and (λ j. not (is_reported lines j)) (λ j. not (j == e)) (λ j. not (is_reported (lines ++ Completed e s ∷ []) j))
    (λ x. ap not (reported_push lines (Completed e s) x) ∙ not_or (is_reported lines x) (x == e)) (instances n)

pub same_filter : (p q : ℕ → Bool) → ((x : ℕ) → p x ≡ q x) → (xs : List ℕ) → filter p xs ≡ filter q xs
same_filter p q h [] = refl
same_filter p q h (x ∷ xs) = rw (h x, same_filter p q h xs) refl

pub active_wait : (lines : List Line) (e n : ℕ) → active (lines ++ Waiting e ∷ []) n ≡ active lines n
active_wait lines e n =
    same_filter (λ j. not (is_reported (lines ++ Waiting e ∷ []) j)) (λ j. not (is_reported lines j))
    (λ x. ap not (reported_push lines (Waiting e) x ∙ or-false (is_reported lines x))) (instances n)

pub active_more : (lines : List Line) (n : ℕ) → is_reported lines n ≡ false → active lines (n + 1) ≡ active lines n ++ n ∷ []
active_more lines n h = rw add-one (ap (filter (λ j. not (is_reported lines j))) (instances_more n) ∙ filter-append (λ j. not (is_reported lines j)) (instances n) (n ∷ []) ∙ rw h refl)

active_below : (lines : List Line) (e s n : ℕ) → n ≤ e → active (lines ++ AtOnce e s ∷ []) n ≡ active lines n
active_below lines e s zero h = refl
active_below lines e s (suc n) h =
    let told : List Line = lines ++ AtOnce e s ∷ [] in
    let before : active told n ≡ active lines n = active_below lines e s n (omega arith) in
    let differs : (n == e) ≡ false = grind arith in
    let same : is_reported told n ≡ is_reported lines n = reported_push lines (AtOnce e s) n ∙ rw differs (or-false (is_reported lines n)) in
    ap (filter (λ j. not (is_reported told j))) (instances_more n)
    ∙ filter-append (λ j. not (is_reported told j)) (instances n) (n ∷ [])
    ∙ ap (λ (w : List ℕ). w ++ filter (λ j. not (is_reported told j)) (n ∷ [])) before
    ∙ ap (λ (b : Bool). active lines n ++ cond (not b) (n ∷ []) []) same
    ∙ sym (ap (filter (λ j. not (is_reported lines j))) (instances_more n) ∙ filter-append (λ j. not (is_reported lines j)) (instances n) (n ∷ []))

or-true : (b : Bool) → (b || true) ≡ true
or-true true = refl
or-true false = refl

pub active_at_once : (lines : List Line) (n s : ℕ) → active (lines ++ AtOnce n s ∷ []) (n + 1) ≡ active lines n
active_at_once lines n s =
    let told : List Line = lines ++ AtOnce n s ∷ [] in
    let same : (n == n) ≡ true = grind arith in
    let reported : is_reported told n ≡ true = reported_push lines (AtOnce n s) n ∙ rw same (or-true (is_reported lines n)) in
    rw add-one (ap (filter (λ j. not (is_reported told j))) (instances_more n)
    ∙ filter-append (λ j. not (is_reported told j)) (instances n) (n ∷ [])
    ∙ ap (λ (b : Bool). active told n ++ cond (not b) (n ∷ []) []) reported ∙ append-nil (active told n) ∙ active_below lines n s n (omega arith))

none_later : (p : ℕ → Bool) (e n : ℕ) → n ≤ e → list_any (λ j. j == e) (filter p (instances n)) ≡ false
none_later p e zero h = refl
none_later p e (suc n) h =
    let before : list_any (λ j. j == e) (filter p (instances n)) ≡ false = none_later p e n (omega arith) in
    let differs : (n == e) ≡ false = grind arith in
    ap (λ xs. list_any (λ j. j == e) (filter p xs)) (instances_more n)
    ∙ ap (list_any (λ j. j == e)) (filter-append p (instances n) (n ∷ []))
    ∙ list_any-append (λ j. j == e) (filter p (instances n)) (filter p (n ∷ []))
    ∙ ap (λ (b : Bool). b || list_any (λ j. j == e) (filter p (n ∷ []))) before
    ∙ elim (p n) as (λ b. list_any (λ j. j == e) (cond b (n ∷ []) []) ≡ false) [ true ↦ rw differs refl | false ↦ refl ]

any_last : (p : ℕ → Bool) (e n : ℕ) (a : Bool) → ((e < n) × (a ≡ p e)) ⊎ ((e ≡ n) × (a ≡ false)) → (a || list_any (λ j. j == e) (filter p (n ∷ []))) ≡ p e
any_last p e n a (inl h) =
    let differs : (n == e) ≡ false = let lt : e < n = h.0 in grind arith in
    rw h.1 (elim (p n) as (λ b. (p e || list_any (λ j. j == e) (cond b (n ∷ []) [])) ≡ p e) [ true ↦ rw differs (or-false (p e)) | false ↦ or-false (p e) ])
any_last p e n a (inr h) =
    let same : (n == n) ≡ true = grind arith in
    rw (h.1, h.0) (elim (p n) as (λ b. list_any (λ j. j == n) (cond b (n ∷ []) []) ≡ b) [ true ↦ rw same refl | false ↦ refl ])

pub any_is : (p : ℕ → Bool) (e n : ℕ) → e < n → list_any (λ j. j == e) (filter p (instances n)) ≡ p e
any_is p e zero h = absurd (omega arith)
any_is p e (suc n) h =
    ap (λ xs. list_any (λ j. j == e) (filter p xs)) (instances_more n)
    ∙ ap (list_any (λ j. j == e)) (filter-append p (instances n) (n ∷ []))
    ∙ list_any-append (λ j. j == e) (filter p (instances n)) (filter p (n ∷ []))
    ∙ any_last p e n (list_any (λ j. j == e) (filter p (instances n)))
    (elim (cases_lt e n) [ inl lt ↦ inl (lt, any_is p e n lt) | inr le ↦ inr (omega arith, none_later p e n le) ])

pub kept_leave : (lines : List Line) (n e s : ℕ) (xs ys : List ℕ) → IsKept lines n xs → e < n → ys ≡ filter (λ j. not (j == e)) xs → IsKept (lines ++ Completed e s ∷ []) n ys
kept_leave lines n e s xs ys k h is = record {
  waits = is ∙ ap (filter (λ j. not (j == e))) k.waits ∙ sym (active_leave lines e s n);
  fresh = λ i le. let differs : (i == e) ≡ false = grind arith in reported_push lines (Completed e s) i ∙ rw (k.fresh i le, differs) refl;
}

pub kept_first : (lines : List Line) (n s : ℕ) (xs : List ℕ) → IsKept lines n xs → IsKept (lines ++ AtOnce n s ∷ []) (n + 1) xs
kept_first lines n s xs k = record {
  waits = k.waits ∙ sym (active_at_once lines n s);
  fresh = λ i le. let differs : (i == n) ≡ false = grind arith in let ge : n ≤ i = omega arith in reported_push lines (AtOnce n s) i ∙ rw (k.fresh i ge, differs) refl;
}

pub kept_wait : (lines : List Line) (n : ℕ) (xs : List ℕ) → IsKept lines n xs → IsKept (lines ++ Waiting n ∷ []) (n + 1) (xs ++ n ∷ [])
kept_wait lines n xs k = record {
  waits = ap (λ (w : List ℕ). w ++ n ∷ []) k.waits ∙ sym (active_more lines n (k.fresh n (omega arith))) ∙ sym (active_wait lines n (n + 1));
  fresh = λ i le. let ge : n ≤ i = omega arith in reported_push lines (Waiting n) i ∙ rw (k.fresh i ge) refl;
}

pub held_first : (p : ℕ → Bool) (lines : List Line) (n : ℕ) (xs : List ℕ) → IsKept lines n xs → list_any p (active lines (n + 1)) ≡ (list_any p (active lines n) || p n)
held_first p lines n xs k = ap (list_any p) (active_more lines n (k.fresh n (omega arith))) ∙ list_any-append p (active lines n) (n ∷ []) ∙ ap (λ b. list_any p (active lines n) || b) (or-false (p n))

pub kept_is : (lines : List Line) (n e : ℕ) (xs : List ℕ) → IsKept lines n xs → e < n → list_any (λ j. j == e) xs ≡ not (is_reported lines e)
kept_is lines n e xs k h = ap (list_any (λ j. j == e)) k.waits ∙ any_is (λ j. not (is_reported lines j)) e n h

pub polled_on : (c : PermutationRun) (m : Moment) (n t : ℕ) (old new : List Line) (b : Bool) → t < n → new ≡ pass c m old → b ≡ polls_again c m old new → b ≡ true → polled c m (n - (t + 1)) new ≡ polled c m (n - t) old
polled_on c m n t old new b h is says holds =
    let e : n - t ≡ suc (n - (t + 1)) = omega arith in
    let on : polls_again c m old (pass c m old) ≡ true = ap (polls_again c m old) (sym is) ∙ sym says ∙ holds in
    rw (e, on, is) refl

pub polled_off : (c : PermutationRun) (m : Moment) (n t : ℕ) (old new : List Line) (b : Bool) → t < n → new ≡ pass c m old → b ≡ polls_again c m old new → b ≡ false → new ≡ polled c m (n - t) old
polled_off c m n t old new b h is says fails =
    let e : n - t ≡ suc (n - (t + 1)) = omega arith in
    let off : polls_again c m old (pass c m old) ≡ false = ap (polls_again c m old) (sym is) ∙ sym says ∙ fails in
    rw (e, off, is) refl

pub fold_more : (f : List Line → ℕ → List Line) (a : List Line) (n : ℕ) → fold f a (instances (n + 1)) ≡ f (fold f a (instances n)) n
fold_more f a n = rw add-one (ap (fold f a) (instances_more n) ∙ fold-append f a (instances n) (n ∷ []))

unnamed : (o : Option EntryTree) (ms : List Marker) → not (length ms == 0) ≡ false → option_map_or (λ (e : EntryTree). list_any (names e) ms) o false ≡ false
unnamed None ms h = refl
unnamed (Some e) [] h = refl
unnamed (Some e) (m ∷ ms) h = let some : (length (m ∷ ms) == 0) ≡ false = grind arith in let no : true ≡ false = ap not (sym some) ∙ h in cc

-- an entry without markers names no step
pub unmarked : (c : PermutationRun) (i : ℕ) (xs : List ℕ) → is_marked c i ≡ false → list_any (is_awaited c i) xs ≡ false
unmarked c i [] h = refl
unmarked c i (x ∷ xs) h = rw (unnamed (slice_get c.entries x) (markers_of c i) h, unmarked c i xs h) refl
