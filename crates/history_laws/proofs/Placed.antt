-- What a permutation orders is of sessions that are there, and of blocks that they may be given.
use Rattle.std.proofs.Common.{◌≡◌, sym, ◌∙◌, ap, subst, Bool, true, false, ◌==◌, ℕ, zero, suc, ◌+◌, ◌-◌, ◌<◌, ◌≤◌, List, [], ◌∷◌, ◌++◌, length, map, get_or, arith, if◌then◌else◌}
use Rattle.std.specs.Prelude.{Option, Some, None, option_map, option_and_then, option_to_list, filter_map, flat_map, slice_get}
use Rattle.std.specs.List.{AllByRecursion, cons_option, enumerate_from, range_with_len}
use Rattle.std.specs.Option.{option_map_or}
use Rattle.std.proofs.lemmas.Option.{slice_get-get_or}
use Rattle.std.proofs.lemmas.List.Elements.{recursion_from_All}
use Rattle.session_machine.specs.declared.event.Order.{Order}
use Rattle.session_machine.specs.declared.event.Order.TheVariants.{Launch, Leave, Stop}
use Rattle.session_machine.specs.declared.reply.HistItem.{HistItem}
use Rattle.session_machine.specs.Machine.{Blocks, may_launch}
use Rattle.spec_parser.specs.Trees.{PartTree, StepTree, SessionTree, EntryTree, SpecTree}
use Rattle.spec_parser.specs.Numbered.{session_numbered, step_of_entry}
use Rattle.spec_parser.specs.Stands.{StepStands, session_parts}
use Rattle.report_lines.specs.Due.{is_over}
use Rattle.report_lines.specs.Orders.{launch_in, own_launches, setups_of, launch_of_entry, closing_of, with_leaves, orders_of}
use Rattle.spec_files.specs.Complete.{HasItsBlocks, HasItsSteps}
use Rattle.history_laws.proofs.Lists.{each_append, each_left, each_right, each_unmap, each_of, each_flat, each_at, there}

-- the session is there, and may be given the block
abbrev pub IsPlaced : Blocks → ℕ → Order → Type 0
IsPlaced blocks n (Launch session block) = (session ≤ n) × (may_launch blocks session block ≡ true)
IsPlaced blocks n (Leave session) = session ≤ n
IsPlaced blocks n Stop = Unit {0}

abbrev MayAll : Blocks → PartTree → Type 0
MayAll blocks part = (session : ℕ) → may_launch blocks session part.block ≡ true

-- each session's part of one kind
own_from : (blocks : Blocks) (part : SessionTree → Option PartTree) (n k : ℕ) (ss : List SessionTree) → k + length ss ≤ n + 1
    → AllByRecursion (λ (s : SessionTree). AllByRecursion (MayAll blocks) (option_to_list (part s))) ss
    → AllByRecursion (IsPlaced blocks n) (filter_map (λ (p : ℕ × SessionTree). option_map (launch_in p.0) (part p.1)) (enumerate_from k ss))
own_from blocks part n k [] le h = tt
own_from blocks part n k (s ∷ ss) le h = by (part s) h.0 (own_from blocks part n (k + 1) ss (omega (arith, le)) h.1) where
  by : (o : Option PartTree) → AllByRecursion (MayAll blocks) (option_to_list o)
      → AllByRecursion (IsPlaced blocks n) (filter_map (λ (p : ℕ × SessionTree). option_map (launch_in p.0) (part p.1)) (enumerate_from (k + 1) ss))
      → AllByRecursion (IsPlaced blocks n) (cons_option (option_map (launch_in k) o) (filter_map (λ (p : ℕ × SessionTree). option_map (launch_in p.0) (part p.1)) (enumerate_from (k + 1) ss)))
  by None may rest = rest
  by (Some x) may rest = ((omega (arith, le), may.0 k), rest)

leaves_from : (blocks : Blocks) (n k m : ℕ) → k + m ≤ n + 1 → AllByRecursion (IsPlaced blocks n) (map (λ s. Leave s) (range_with_len k m))
leaves_from blocks n k zero le = tt
leaves_from blocks n k (suc m) le = (omega (arith, le), leaves_from blocks n (k + 1) m (omega (arith, le)))

with_leaves_placed : (blocks : Blocks) (n : ℕ) (items : List HistItem) (k : ℕ) (os : List Order) → AllByRecursion (IsPlaced blocks n) os → AllByRecursion (IsPlaced blocks n) (with_leaves items k os)
with_leaves_placed blocks n items k [] h = tt
with_leaves_placed blocks n items k (Launch s b ∷ os) h =
    (h.0, by (is_over items k s) (with_leaves items (k + 1) os) (with_leaves items (k + 2) os) (with_leaves_placed blocks n items (k + 1) os h.1) (with_leaves_placed blocks n items (k + 2) os h.1)) where
      by : (over : Bool) (xs ys : List Order) → AllByRecursion (IsPlaced blocks n) xs → AllByRecursion (IsPlaced blocks n) ys → AllByRecursion (IsPlaced blocks n) (if over then xs else Leave s ∷ ys)
      by true xs ys p q = p
      by false xs ys p q = (h.0.0, q)
with_leaves_placed blocks n items k (Leave s ∷ os) h = (h.0, with_leaves_placed blocks n items (k + 1) os h.1)
with_leaves_placed blocks n items k (Stop ∷ os) h = (h.0, with_leaves_placed blocks n items (k + 1) os h.1)

mains : (blocks : Blocks) (n : ℕ) (ps : List PartTree) → AllByRecursion (λ (part : PartTree). may_launch blocks 0 part.block ≡ true) ps → AllByRecursion (IsPlaced blocks n) (map (launch_in 0) ps)
mains blocks n [] h = tt
mains blocks n (p ∷ ps) h = ((omega arith, h.0), mains blocks n ps h.1)

-- ---- entries

its_session : (sessions : List SessionTree) (k : ℕ) (s : SessionTree) → 0 < k → slice_get sessions (k - 1) ≡ Some s → session_numbered sessions k ≡ Some s
its_session sessions k s one h = let some : (k == 0) ≡ false = grind arith in rw some h

entry_placed : (blocks : Blocks) (spec : SpecTree) (e : EntryTree) → AllByRecursion (λ (s : SessionTree). AllByRecursion (MayAll blocks) (session_parts s)) spec.sessions
    → StepStands spec.sessions e.session e.step → IsPlaced blocks (length spec.sessions) (launch_of_entry spec e)
entry_placed blocks spec e may st =
    let low = st.from_one in
    let high = st.session in
    let less : e.session - 1 < length spec.sessions = omega (arith, low, high) in
    let one = there spec.sessions (e.session - 1) less in
    let s = get_or spec.sessions (e.session - 1) one.0 in
    let at : slice_get spec.sessions (e.session - 1) ≡ Some s = slice_get-get_or spec.sessions (e.session - 1) one.0 less in
    let step = there s.steps e.step (st.step one.0) in
    let own = each_at (λ (s : SessionTree). AllByRecursion (MayAll blocks) (session_parts s)) spec.sessions (e.session - 1) s may at in
    let steps = each_unmap (MayAll blocks) (λ (x : StepTree). x.part) s.steps
    (each_left (MayAll blocks) (map (λ (x : StepTree). x.part) s.steps) (option_to_list s.teardown) (each_right (MayAll blocks) (option_to_list s.setup) (map (λ (x : StepTree). x.part) s.steps ++ option_to_list s.teardown) own)) in
    let its = each_at (λ (x : StepTree). MayAll blocks x.part) s.steps e.step step.0 steps step.1 in
    let found : step_of_entry spec e ≡ Some step.0 = ap (option_and_then (λ (t : SessionTree). slice_get t.steps e.step)) (its_session spec.sessions e.session s low at) ∙ step.1 in
    subst (λ (o : Option StepTree). IsPlaced blocks (length spec.sessions) (Launch e.session (option_map_or (λ (x : StepTree). x.part.block) o 0))) (sym found) (high, its e.session)

entries_placed : (blocks : Blocks) (spec : SpecTree) (es : List EntryTree) → AllByRecursion (λ (s : SessionTree). AllByRecursion (MayAll blocks) (session_parts s)) spec.sessions
    → AllByRecursion (λ (e : EntryTree). StepStands spec.sessions e.session e.step) es → AllByRecursion (IsPlaced blocks (length spec.sessions)) (map (launch_of_entry spec) es)
entries_placed blocks spec [] may h = tt
entries_placed blocks spec (e ∷ es) may h = (entry_placed blocks spec e may h.0, entries_placed blocks spec es may h.1)

-- ---- the whole

module _ (spec : SpecTree) (blocks : Blocks) (fit : HasItsBlocks spec blocks) where
  n : ℕ
  n = length spec.sessions

  may : AllByRecursion (λ (s : SessionTree). AllByRecursion (MayAll blocks) (session_parts s)) spec.sessions
  may = each_flat (MayAll blocks) session_parts spec.sessions (recursion_from_All (MayAll blocks) (flat_map session_parts spec.sessions) fit.own)

  main : AllByRecursion (λ (part : PartTree). may_launch blocks 0 part.block ≡ true) (spec.setups ++ option_to_list spec.teardown)
  main = recursion_from_All (λ (part : PartTree). may_launch blocks 0 part.block ≡ true) (spec.setups ++ option_to_list spec.teardown) fit.main

  setups_placed : AllByRecursion (IsPlaced blocks (length spec.sessions)) (setups_of spec)
  setups_placed =
      each_append (IsPlaced blocks (length spec.sessions)) (map (launch_in 0) spec.setups) (own_launches (λ s. s.setup) spec)
      (mains blocks (length spec.sessions) spec.setups (each_left (λ (part : PartTree). may_launch blocks 0 part.block ≡ true) spec.setups (option_to_list spec.teardown) main))
      (own_from blocks (λ s. s.setup) (length spec.sessions) 1 spec.sessions (omega arith)
      (each_of (λ (s : SessionTree). AllByRecursion (MayAll blocks) (session_parts s)) (λ (s : SessionTree). AllByRecursion (MayAll blocks) (option_to_list s.setup))
      (λ s h. each_left (MayAll blocks) (option_to_list s.setup) (map (λ (x : StepTree). x.part) s.steps ++ option_to_list s.teardown) h) spec.sessions may))

  closing_placed : AllByRecursion (IsPlaced blocks (length spec.sessions)) (closing_of spec)
  closing_placed =
      let P = IsPlaced blocks (length spec.sessions) in
      let leaves = map (λ s. Leave s) (range_with_len 1 (length spec.sessions)) in
      let last = map (launch_in 0) (option_to_list spec.teardown) in
      let own = own_launches (λ s. s.teardown) spec in
      each_append P (own ++ leaves) last
      (each_append P own leaves
      (own_from blocks (λ s. s.teardown) (length spec.sessions) 1 spec.sessions (omega arith)
      (each_of (λ (s : SessionTree). AllByRecursion (MayAll blocks) (session_parts s)) (λ (s : SessionTree). AllByRecursion (MayAll blocks) (option_to_list s.teardown))
      (λ s h. each_right (MayAll blocks) (map (λ (x : StepTree). x.part) s.steps) (option_to_list s.teardown)
      (each_right (MayAll blocks) (option_to_list s.setup) (map (λ (x : StepTree). x.part) s.steps ++ option_to_list s.teardown) h)) spec.sessions may))
      (leaves_from blocks (length spec.sessions) 1 (length spec.sessions) (omega arith)))
      (mains blocks (length spec.sessions) (option_to_list spec.teardown) (each_right (λ (part : PartTree). may_launch blocks 0 part.block ≡ true) spec.setups (option_to_list spec.teardown) main))

  pub orders_placed : (entries : List EntryTree) (items : List HistItem) → HasItsSteps spec entries → AllByRecursion (IsPlaced blocks (length spec.sessions)) (orders_of spec entries items)
  orders_placed entries items steps =
      let P = IsPlaced blocks (length spec.sessions) in
      let first = setups_of spec ++ map (launch_of_entry spec) entries in
      each_append P first (with_leaves items (length first) (closing_of spec))
      (each_append P (setups_of spec) (map (launch_of_entry spec) entries) setups_placed
      (entries_placed blocks spec entries may (recursion_from_All (λ (e : EntryTree). StepStands spec.sessions e.session e.step) entries steps)))
      (with_leaves_placed blocks (length spec.sessions) items (length first) (closing_of spec) closing_placed)
