-- A permutation has one outcome, and is a serial run or not.
use Rattle.std.proofs.Common.{◌≡◌, ◌∙◌, ℕ, List, [], ◌∷◌, length, map, refl, sym, ap, subst}
use Rattle.std.specs.Prelude.{Option, Some, None, Result, Ok, IfSome}
use Rattle.sql_values.specs.declared.value.Value.{Value}
use Rattle.session_machine.specs.declared.event.Mode.TheVariants.{Directed}
use Rattle.session_machine.specs.declared.fault.EngineFault.{EngineFault}
use Rattle.session_machine.specs.declared.reply.HistItem.{HistItem}
use Rattle.session_machine.specs.Machine.{Machine, Blocks, opening, Run}
use Rattle.session_machine.specs.Engine.{visible_in}
use Rattle.spec_parser.specs.Trees.{EntryTree, SpecTree}
use Rattle.permutation_plans.specs.Regular.{IsRegular}
use Rattle.permutation_plans.proofs.OneHistory.{one_regular}
use Rattle.outcome_counts.specs.declared.outcome.RunOutcome.{RunOutcome}
use Rattle.outcome_counts.specs.Outcomes.{SameOutcome, answers_of}
use Rattle.outcome_counts.proofs.Sameness.{same_told}
use Rattle.outcome_counts.specs.declared.ending.Ending.TheVariants.{Whole}
use Rattle.outcome_counts.specs.Endings.{ending_in, front_of}
use Rattle.outcomes.specs.Tables.{Shown, tables_view}
use Rattle.outcomes.specs.Judging.{AreSerialEntries, IsSerialRun}
use Rattle.outcomes.proofs.Redoing.{one_state}

-- ---- rows are shown in one way

abbrev Shows : Type 0
Shows = Option (List (List Value))

abbrev shown : List Shows → List (Result Shows EngineFault)
shown tables = map Ok tables

same_tables : (xs ys : List Shows) → shown xs ≡ shown ys → xs ≡ ys
same_tables [] [] e = refl
same_tables (x ∷ xs) (y ∷ ys) e =
    let first : x ≡ y = cc in
    let others : shown xs ≡ shown ys = cc in
    ap (λ (t : Shows). t ∷ xs) first ∙ ap (λ (ts : List Shows). y ∷ ts) (same_tables xs ys others)
same_tables [] (y ∷ ys) e = absurd cc
same_tables (x ∷ xs) [] e = absurd cc

no_names : (names : List (List ℕ)) (tables : List Shows) → map (visible_in None 0) names ≡ shown tables → names ≡ []
no_names [] tables e = refl
no_names (n ∷ ns) [] e = absurd cc
no_names (n ∷ ns) (t ∷ ts) e = absurd cc

no_tables : (tables : List Shows) → [] ≡ shown tables → tables ≡ []
no_tables [] e = refl
no_tables (t ∷ ts) e = absurd cc

none_shown : (state : Option Machine) (names : List (List ℕ)) (tables : List Shows) → names ≡ [] → map (visible_in state 0) names ≡ shown tables → tables ≡ []
none_shown state names tables none e = no_tables tables (sym (ap (map (visible_in state 0)) none) ∙ e)

by_states : (blocks : Blocks) (count : ℕ) (items : List HistItem) (names : List (List ℕ)) (xs ys : List Shows) (a b : Option Machine)
    → IfSome a (λ m. Run blocks Directed (opening count) items m) → IfSome b (λ m. Run blocks Directed (opening count) items m)
    → map (visible_in a 0) names ≡ shown xs → map (visible_in b 0) names ≡ shown ys → xs ≡ ys
by_states blocks count items names xs ys None b r s e f =
    let none = no_names names xs e in
    none_shown None names xs none e ∙ sym (none_shown b names ys none f)
by_states blocks count items names xs ys (Some m) None r s e f =
    let none = no_names names ys f in
    none_shown (Some m) names xs none e ∙ sym (none_shown None names ys none f)
by_states blocks count items names xs ys (Some m) (Some n) r s e f =
    let same : m ≡ n = one_state blocks Directed (opening count) items m n r s in
    same_tables xs ys (sym e ∙ ap (λ (w : Machine). map (visible_in (Some w) 0) names) same ∙ f)

same_shown : (blocks : Blocks) (count : ℕ) (items : List HistItem) (names : List (List ℕ)) (xs ys : List Shows) → Shown blocks count items names xs → Shown blocks count items names ys → xs ≡ ys
same_shown blocks count items names xs ys h k = by_states blocks count items names xs ys h.state k.state h.leads k.leads h.rows k.rows

-- ---- so is a permutation's outcome

module _ (spec : SpecTree) (blocks : Blocks) (names : List (List ℕ)) (entries : List EntryTree) where
  pub one_outcome : (a b : RunOutcome) → IsSerialRun spec blocks names entries a → IsSerialRun spec blocks names entries b → SameOutcome a b
  one_outcome a b p q =
      let same : p.items ≡ q.items = one_regular spec entries blocks p.items q.items p.regular q.regular in
      let here : Shown blocks (length spec.sessions) (front_of spec entries q.items) names (tables_view a.tables.items) =
      subst (λ (is : List HistItem). Shown blocks (length spec.sessions) (front_of spec entries is) names (tables_view a.tables.items)) same p.whole.2 in
      same_told a b (p.whole.1 ∙ ap (answers_of spec) same ∙ sym q.whole.1)
      (same_shown blocks (length spec.sessions) (front_of spec entries q.items) names (tables_view a.tables.items) (tables_view b.tables.items) here q.whole.2)

  -- what has this history, which isn't run to its end, or isn't serial, is no serial run
  pub not_whole : (items : List HistItem) → IsRegular spec blocks entries items → (ending_in spec entries items ≡ Whole → ⊥) → (o : RunOutcome) → IsSerialRun spec blocks names entries o → ⊥
  not_whole items regular none o run =
      none (subst (λ (is : List HistItem). ending_in spec entries is ≡ Whole) (one_regular spec entries blocks run.items items run.regular regular) run.whole.0)

  pub not_serial : (items : List HistItem) → IsRegular spec blocks entries items → (AreSerialEntries spec blocks entries items → ⊥) → (o : RunOutcome) → IsSerialRun spec blocks names entries o → ⊥
  not_serial items regular none o run =
      none (subst (λ (is : List HistItem). AreSerialEntries spec blocks entries is) (one_regular spec entries blocks run.items items run.regular regular) run.serial)
