-- Verdicts, by what was found.
use Rattle.std.proofs.Common.{◌≡◌, ◌≢◌, ◌∙◌, List, [], map, sym, subst}
use Rattle.std.specs.Global.{Vec}
use Rattle.std.specs.Prelude.{ℕ}
use Rattle.session_machine.specs.Machine.{Blocks}
use Rattle.spec_parser.specs.Trees.{SpecTree}
use Rattle.outcome_counts.specs.declared.outcome.RunOutcome.{RunOutcome}
use Rattle.outcome_counts.specs.Outcomes.{SameOutcome}
use Rattle.outcome_counts.proofs.Sameness.{same_by}
use Rattle.outcome_verdicts.specs.declared.serial_orders.SerialOrder.{SerialOrder}
use Rattle.outcome_verdicts.specs.declared.verdict.Verdict.TheVariants.{Serial, RestSerial, NotSerial, Untold}
use Rattle.outcome_verdicts.specs.Transactions.{TransactionTree}
use Rattle.outcome_verdicts.specs.Failures.{CanBeLeftOut, IsMixed, SameBut, failed_of}
use Rattle.outcome_verdicts.specs.Verdicts.{IsAs, IsAsNone, IsFound, IsNotFound, IsVerdict, Orders, StandFor}
use Rattle.outcome_verdicts.proofs.Found.{as_found, none_found}
use Rattle.outcome_verdicts.proofs.Sames.{same_but_by}

module _ (spec : SpecTree) (blocks : Blocks) (lists : List (List TransactionTree)) (All Rest : Orders) (o : RunOutcome) where
  -- one of all has it
  pub one_has : (orders : List SerialOrder) (order : Vec ℕ) (found : List ℕ) → StandFor All orders → order.items ≡ found → IsFound orders (λ s. SameOutcome s o) found
      → IsVerdict spec blocks lists All Rest o (Serial order)
  one_has orders order found stand is has = subst (IsAs All (λ s. SameOutcome s o)) (sym is) (as_found All orders (λ s. SameOutcome s o) found stand has)

  -- none has
  pub none_has : (orders : List SerialOrder) → StandFor All orders → IsNotFound orders (λ s. SameOutcome s o) → IsAsNone All (λ s. SameOutcome s o)
  none_has orders stand none = none_found All orders (λ s. SameOutcome s o) (λ a b same has. same_by a b o same has) stand none

  pub none_failed : IsAsNone All (λ s. SameOutcome s o) → failed_of spec o lists ≡ [] → IsVerdict spec blocks lists All Rest o NotSerial
  none_failed none failed = (none, λ some. absurd (some failed))

  -- the others have the rest
  pub rest_has : (ts : List TransactionTree) (orders : List SerialOrder) (sessions rest : Vec ℕ) (found : List ℕ) → ts ≡ failed_of spec o lists → IsAsNone All (λ s. SameOutcome s o) → ts ≢ []
      → CanBeLeftOut spec blocks ts → StandFor Rest orders → sessions.items ≡ map (λ (t : TransactionTree). t.session) ts → rest.items ≡ found
      → IsFound orders (λ s. SameBut spec ts s o) found → IsVerdict spec blocks lists All Rest o (RestSerial sessions rest)
  rest_has ts orders sessions rest found own none some out stand failed is has =
      let by = λ (us : List TransactionTree).
      (us ≢ []) × (sessions.items ≡ map (λ (t : TransactionTree). t.session) us) × CanBeLeftOut spec blocks us × IsAs Rest (λ s. SameBut spec us s o) rest.items in
      let told : by ts = (some, failed, out, subst (IsAs Rest (λ s. SameBut spec ts s o)) (sym is) (as_found Rest orders (λ s. SameBut spec ts s o) found stand has)) in
      let all : by (failed_of spec o lists) = subst by own told in
      (none, all.0, all.1, all.2, all.3)

  -- nor have these
  pub rest_has_not : (ts : List TransactionTree) (orders : List SerialOrder) → ts ≡ failed_of spec o lists → IsAsNone All (λ s. SameOutcome s o) → CanBeLeftOut spec blocks ts → StandFor Rest orders
      → IsNotFound orders (λ s. SameBut spec ts s o) → IsVerdict spec blocks lists All Rest o NotSerial
  rest_has_not ts orders own none out stand not =
      let by = λ (us : List TransactionTree). CanBeLeftOut spec blocks us × IsAsNone Rest (λ s. SameBut spec us s o) in
      let told : by ts = (out, none_found Rest orders (λ s. SameBut spec ts s o) (λ a b same has. same_but_by spec ts a b o same has) stand not) in
      (none, λ some. subst by own told)
