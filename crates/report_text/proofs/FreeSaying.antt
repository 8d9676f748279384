-- A free run, item by item.
use Rattle.std.proofs.Common.{◌≡◌, ◌⊎◌, ℕ, zero, suc, ◌+◌, ◌<◌, ◌≤◌, ◌^◌, List, [], ◌∷◌, ◌++◌, length, Bool, true, false, refl, sym, ap, ◌∙◌, subst, arith, inl, inr, get_or, take, drop, length-set, fold}
use Rattle.std.proofs.lemmas.List.{drop_more, take_more, drop_all}
use Rattle.std.proofs.lemmas.List.Sums.{fold-append}
use Rattle.std.proofs.lemmas.Bool.{cases_eq, cases_lt}
use Rattle.std.proofs.lemmas.Option.{slice_get_past}
use Rattle.std.specs.Prelude.{◌-◌, ◌==◌, Option, Some, None, IfSome, option_and_then, slice_set, if◌then◌else◌}
use Rattle.std.specs.Option.{option_map_or}
use Rattle.spec_parser.specs.Trees.{PartTree, SessionTree, SpecTree}
use Rattle.session_machine.specs.declared.event.Event.{Event}
use Rattle.session_machine.specs.declared.event.Event.TheVariants.{Launch, Step, Leave}
use Rattle.session_machine.specs.declared.reply.HistItem.{HistItem}
use Rattle.session_machine.specs.declared.reply.Outcome.{Outcome}
use Rattle.session_machine.specs.declared.reply.Outcome.TheVariants.{Launched, Done, Rows, Waits, Failed, Left}
use Rattle.session_machine.specs.Machine.{session_of}
use Rattle.report_text.specs.declared.standing.Standing.{Standing}
use Rattle.spec_parser.specs.Numbered.{session_numbered}
use Rattle.report_text.specs.FreeText.{past, moved, moves, standing, each_says, event_text, item_text, item_note, own_teardown, stands_in, teardown_of}
use Rattle.report_text.specs.Teardowns.{failure_note}
use Rattle.report_text.specs.Inner.Table.{at_number, or_nowhere, IsTable}

-- ---- one more item

pub each_more : (says : Option Standing → HistItem → List ℕ) (items : List HistItem) (i : ℕ) (item : HistItem) → i < length items → item ≡ get_or items i item
    → each_says says (take i items) (drop i items) ≡ says (standing (session_of item.event) (take i items)) item ++ each_says says (take (i + 1) items) (drop (i + 1) items)
each_more says items i item h is =
    ap (each_says says (take i items)) (drop_more items i item h)
    ∙ ap (λ (w : List HistItem). says (standing (session_of (get_or items i item).event) (take i items)) (get_or items i item) ++ each_says says w (drop (i + 1) items)) (sym (take_more items i item h))
    ∙ ap (λ (x : HistItem). says (standing (session_of x.event) (take i items)) x ++ each_says says (take (i + 1) items) (drop (i + 1) items)) (sym is)

pub each_over : (says : Option Standing → HistItem → List ℕ) (before items : List HistItem) (i : ℕ) → length items ≤ i → each_says says before (drop i items) ≡ []
each_over says before items i h = ap (each_says says before) (drop_all i items h)

standing_more : (k : ℕ) (items : List HistItem) (i : ℕ) (item : HistItem) → i < length items → item ≡ get_or items i item
    → standing k (take (i + 1) items) ≡ moves k (standing k (take i items)) item
standing_more k items i item h is =
    ap (standing k) (take_more items i item h)
    ∙ fold-append (moves k) None (take i items) (get_or items i item ∷ [])
    ∙ ap (λ (x : HistItem). moves k (standing k (take i items)) x) (sym is)

-- ---- the table

at_set_same : (table : List (Option Standing)) (s : ℕ) (at : Option Standing) → s < length table → at_number (slice_set table s at) s ≡ at
at_set_same [] s at h = absurd (omega arith)
at_set_same (x ∷ xs) zero at h = refl
at_set_same (x ∷ xs) (suc s) at h = at_set_same xs s at (omega arith)

at_set_other : (table : List (Option Standing)) (s k : ℕ) (at : Option Standing) → (k ≡ s → ⊥) → at_number (slice_set table s at) k ≡ at_number table k
at_set_other [] s k at h = refl
at_set_other (x ∷ xs) zero zero at h = absurd (h refl)
at_set_other (x ∷ xs) zero (suc k) at h = refl
at_set_other (x ∷ xs) (suc s) zero at h = refl
at_set_other (x ∷ xs) (suc s) (suc k) at h = at_set_other xs s k at (λ e. h (ap suc e))

moves_same : (k : ℕ) (at : Option Standing) (item : HistItem) → k ≡ session_of item.event → moves k at item ≡ moved item.event item.reply.outcome at
moves_same k at item h = let e : (session_of item.event == k) ≡ true = grind arith in rw e refl

moves_other : (k : ℕ) (at : Option Standing) (item : HistItem) → (k ≡ session_of item.event → ⊥) → moves k at item ≡ at
moves_other k at item h = let e : (session_of item.event == k) ≡ false = grind arith in rw e refl

pub table_more : (table : List (Option Standing)) (items : List HistItem) (i : ℕ) (item : HistItem) (at : Option Standing) → i < length items → item ≡ get_or items i item
    → at ≡ at_number table (session_of item.event) → IsTable table (take i items)
    → IsTable (slice_set table (session_of item.event) (moved item.event item.reply.outcome at)) (take (i + 1) items)
table_more table items i item at h is stood ok k within =
    let s = session_of item.event in
    let next : Option Standing = moved item.event item.reply.outcome at in
    let few : k < length table = subst (λ (n : ℕ). k < n) (length-set table s next) within in
    elim (cases_eq k s) [
      | inl same ↦
          let there : s < length table = subst (λ (n : ℕ). n < length table) same few in
          ap (at_number (slice_set table s next)) same ∙ at_set_same table s next there
          ∙ ap (moved item.event item.reply.outcome) (stood ∙ ok s there ∙ ap (λ (n : ℕ). standing n (take i items)) (sym same))
          ∙ sym (moves_same k (standing k (take i items)) item same) ∙ sym (standing_more k items i item h is)
      | inr other ↦
          at_set_other table s k next other ∙ ok k few
          ∙ sym (moves_other k (standing k (take i items)) item other) ∙ sym (standing_more k items i item h is)
    ]

-- ---- sessions that the file lacks say nothing

numbered_past : (sessions : List SessionTree) (s : ℕ) → length sessions < s → session_numbered sessions s ≡ None
numbered_past sessions s h =
    let e : (s == 0) ≡ false = grind arith in
    rw e (slice_get_past sessions (s - 1) (omega arith))

text_past : (sessions : List SessionTree) (at : Option Standing) (item : HistItem) → length sessions < session_of item.event → item_text sessions at item ≡ []
text_past sessions at item h =
    ap (λ (o : Option SessionTree). option_map_or (event_text item.event item.reply.outcome at) o []) (numbered_past sessions (session_of item.event) h)

teardown_past : (spec : SpecTree) (s : ℕ) → length spec.sessions < s → teardown_of spec s ≡ None
teardown_past spec s h =
    let e : (s == 0) ≡ false = grind arith in
    rw e (ap (λ (o : Option SessionTree). option_and_then own_teardown o) (slice_get_past spec.sessions (s - 1) (omega arith)))

note_past : (spec : SpecTree) (at : Option Standing) (item : HistItem) → length spec.sessions < session_of item.event → item_note spec at item ≡ []
note_past spec at item h =
    ap (λ (o : Option PartTree). if option_map_or (stands_in at) o false then failure_note spec.sessions (session_of item.event) item.reply.outcome else [])
    (teardown_past spec (session_of item.event) h)

pub text_alike : (sessions : List SessionTree) (table : List (Option Standing)) (before : List HistItem) (at : Option Standing) (item : HistItem) → length table ≡ length sessions + 1
    → at ≡ at_number table (session_of item.event) → IsTable table before → item_text sessions at item ≡ item_text sessions (standing (session_of item.event) before) item
text_alike sessions table before at item count stood ok =
    let s = session_of item.event in
    let cases : (s < length table) ⊎ (length table ≤ s) = cases_lt s (length table) in
    elim cases [
      | inl there ↦ ap (λ (a : Option Standing). item_text sessions a item) (stood ∙ ok s there)
      | inr far ↦ text_past sessions at item (omega arith) ∙ sym (text_past sessions (standing s before) item (omega arith))
    ]

pub note_alike : (spec : SpecTree) (table : List (Option Standing)) (before : List HistItem) (at : Option Standing) (item : HistItem) → length table ≡ length spec.sessions + 1
    → at ≡ at_number table (session_of item.event) → IsTable table before → item_note spec at item ≡ item_note spec (standing (session_of item.event) before) item
note_alike spec table before at item count stood ok =
    let s = session_of item.event in
    let cases : (s < length table) ⊎ (length table ≤ s) = cases_lt s (length table) in
    elim cases [
      | inl there ↦ ap (λ (a : Option Standing). item_note spec a item) (stood ∙ ok s there)
      | inr far ↦ note_past spec at item (omega arith) ∙ sym (note_past spec (standing s before) item (omega arith))
    ]

-- ---- statements are counted in the items

more : (at : Option Standing) (n m : ℕ) → n ≤ m → IfSome at (λ a. a.statement ≤ n) → IfSome at (λ a. a.statement ≤ m)
more None n m le h = tt
more (Some a) n m le h = omega (arith, h)

past_le : (outcome : Outcome) (a : Standing) (n : ℕ) → a.statement ≤ n → (past outcome a).statement ≤ n + 1
past_le Launched a n h = omega arith
past_le Done a n h = omega arith
past_le (Rows set) a n h = omega arith
past_le Waits a n h = omega arith
past_le (Failed fault) a n h = omega arith
past_le Left a n h = omega arith

moved_le : (event : Event) (outcome : Outcome) (at : Option Standing) (n : ℕ) → IfSome at (λ a. a.statement ≤ n) → IfSome (moved event outcome at) (λ a. a.statement ≤ n + 1)
moved_le (Launch session block) outcome at n h = omega arith
moved_le (Step session) outcome None n h = tt
moved_le (Step session) outcome (Some a) n h = past_le outcome a n h
moved_le (Leave session) outcome at n h = tt

either_le : (b : Bool) (x y : Option Standing) (n : ℕ) → IfSome x (λ a. a.statement ≤ n) → IfSome y (λ a. a.statement ≤ n) → IfSome (if b then x else y) (λ a. a.statement ≤ n)
either_le true x y n h k = h
either_le false x y n h k = k

fold_le : (s : ℕ) (items : List HistItem) (at : Option Standing) (n m : ℕ) → n + length items ≤ m → IfSome at (λ a. a.statement ≤ n) → IfSome (fold (moves s) at items) (λ a. a.statement ≤ m)
fold_le s [] at n m le h = more at n m (omega arith) h
fold_le s (x ∷ xs) at n m le h =
    fold_le s xs (moves s at x) (n + 1) m (omega arith)
    (either_le (session_of x.event == s) (moved x.event x.reply.outcome at) at (n + 1) (moved_le x.event x.reply.outcome at n h) (more at n (n + 1) (omega arith) h))

pub standing_le : (s : ℕ) (items : List HistItem) (m : ℕ) → length items ≤ m → IfSome (standing s items) (λ a. a.statement ≤ m)
standing_le s items m h = fold_le s items None 0 m (omega arith) tt

few_in : (at : Option Standing) (m : ℕ) → m + 1 < 2 ^ 64 → IfSome at (λ a. a.statement ≤ m) → IfSome at (λ a. a.statement + 1 < 2 ^ 64)
few_in None m le h = tt
few_in (Some a) m le h = omega (arith, h)

-- what the table has may be counted on
pub at_few : (table : List (Option Standing)) (before : List HistItem) (s m : ℕ) (at : Option Standing) → at ≡ at_number table s → IsTable table before → length before ≤ m → m + 1 < 2 ^ 64
    → IfSome at (λ a. a.statement + 1 < 2 ^ 64)
at_few table before s m at stood ok le few =
    let cases : (s < length table) ⊎ (length table ≤ s) = cases_lt s (length table) in
    elim cases [
      | inl there ↦ subst (λ (a : Option Standing). IfSome a (λ a. a.statement + 1 < 2 ^ 64)) (sym (stood ∙ ok s there)) (few_in (standing s before) m few (standing_le s before m le))
      | inr far ↦ subst (λ (a : Option Standing). IfSome a (λ a. a.statement + 1 < 2 ^ 64)) (sym (stood ∙ ap or_nowhere (slice_get_past table s far))) tt
    ]
