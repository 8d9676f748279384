-- A free run's text behind its first line, and the answer to writing it as the answer to its run.
use Rattle.std.proofs.Common.{◌≡◌, ◌⊎◌, inl, inr, ℕ, List, ◌++◌, Bool, true, false, ◌||◌, Option, Result, Ok, Err, IfErr, refl, sym, ap, subst, ◌∙◌}
use Rattle.std.specs.Prelude.{IsTrue, IsErrOf}
use Rattle.std.specs.Io.KnownBytes.{Appends}
use Rattle.iso_lexer.specs.Devices.{FailsWith, PutsFront}
use Rattle.iso_lexer.specs.declared.device.DeviceFault.{DeviceFault}
use Rattle.session_machine.specs.declared.reply.HistItem.{HistItem}
use Rattle.session_machine.specs.Machine.{Blocks}
use Rattle.spec_parser.specs.Trees.{SpecTree}
use Rattle.permutation_plans.specs.FreeRegular.{IsFreeRegular}
use Rattle.report_text.specs.declared.fault.ReportFault.{ReportFault}
use Rattle.report_text.specs.declared.fault.ReportFault.TheVariants as writes
use Rattle.report_text.specs.declared.fault.Ended.{Ended}
use Rattle.report_text.specs.Answers.{EndsAs, Puts, TellsFailure}
use Rattle.report_text.specs.FreeText.{free_says}
use Rattle.spec_files.specs.declared.fault.RunFault.{RunFault}
use Rattle.spec_files.specs.declared.fault.RunFault.TheVariants as faults
use Rattle.spec_files.specs.FirstLine.{first_line}
use Rattle.spec_files.specs.FreeRuns.{free_text, free_told, IsFreeWritten, IsFreeTold}
use Rattle.spec_files.specs.Runs.{has_ended, has_broken, is_of_one}
use Rattle.spec_files.proofs.Listing.{appends_more, front_behind, front_of_piece, nothing_put}
use Rattle.spec_files.proofs.Telling.{answers_ok, answers_err}

-- ---- a text behind a line

puts_behind : (told : Result Ended ReportFault) (a b c : Option (List ℕ)) (line text : List ℕ) → Appends a b line → Puts b c text told → Puts a c (line ++ text) told
puts_behind (Ok e) a b c line text put p = appends_more a b c line text put p
puts_behind (Err (writes.SetupFailed why)) a b c line text put p = appends_more a b c line text put p
puts_behind (Err writes.SetupWaits) a b c line text put p = appends_more a b c line text put p
puts_behind (Err writes.Write) a b c line text put p = front_behind a b c line text put p
puts_behind (Err writes.Memory) a b c line text put p = front_behind a b c line text put p

order_behind : (a b c eo en : Option (List ℕ)) (line text : List ℕ) → Appends a b line → (en ≡ eo) ⊎ Appends b c text → (en ≡ eo) ⊎ Appends a c (line ++ text)
order_behind a b c eo en line text put (inl same) = inl same
order_behind a b c eo en line text put (inr all) = inr (appends_more a b c line text put all)

-- a sink that takes bytes had not failed
still : (old new : Bool) (r : Result (Unit {0}) DeviceFault) → r ≡ Ok tt → FailsWith old new r → new ≡ old
still true new r is f = f.stays refl
still false new (Ok x) is f = f.tells
still false new (Err e) is f = absurd cc

tells_behind : (told : Result Ended ReportFault) (fo fm fn go gn : Bool) → fm ≡ fo → TellsFailure fm fn go gn told → TellsFailure fo fn go gn told
tells_behind told fo fm fn go gn same t = subst (λ (f : Bool). TellsFailure f fn go gn told) same t

-- ---- what was written

pub no_memory : (spec : SpecTree) (items : List HistItem) (wo eo : Option (List ℕ)) (fo go : Bool) → IsFreeWritten spec items wo wo eo eo fo fo go go (Err faults.Memory)
no_memory spec items wo eo fo go = record {
  told = Err writes.Memory;
  is = refl;
  ending = tt;
  text = nothing_put wo (free_text spec items);
  notes = nothing_put eo (free_says spec items).notes;
  order = inl refl;
  fails = (refl, refl);
}

pub no_line : (spec : SpecTree) (items : List HistItem) (wo wn eo : Option (List ℕ)) (fo fn go : Bool) (e : DeviceFault) (line : List ℕ) → line ≡ first_line spec → PutsFront wo wn line → FailsWith {A = Unit {0}} fo fn (Err e) → IsFreeWritten spec items wo wn eo eo fo fn go go (Err faults.Write)
no_line spec items wo wn eo fo fn go e line same put f = record {
  told = Err writes.Write;
  is = refl;
  ending = tt;
  text = front_of_piece wo wn (first_line spec) (free_says spec items).text (subst (PutsFront wo wn) same put);
  notes = nothing_put eo (free_says spec items).notes;
  order = inl refl;
  fails = subst (λ (b : Bool). (b || go) ≡ true) (sym f.tells) refl;
}

pub behind_line : (spec : SpecTree) (items : List HistItem) (wo wm wn eo en : Option (List ℕ)) (fo fm fn go gn : Bool) (line : List ℕ) (x : Unit {0}) (told : Result Ended ReportFault) (result : Result (Unit {0}) RunFault)
    → line ≡ first_line spec → Appends wo wm line → FailsWith {E = DeviceFault} fo fm (Ok x)
    → result ≡ free_told told → EndsAs (free_says spec items).ending told → Puts wm wn (free_says spec items).text told → Puts eo en (free_says spec items).notes told
    → (en ≡ eo) ⊎ Appends wm wn (free_says spec items).text → TellsFailure fm fn go gn told → IsFreeWritten spec items wo wn eo en fo fn go gn result
behind_line spec items wo wm wn eo en fo fm fn go gn line x told result same put f is ending text notes order fails = record {
  told = told;
  is = is;
  ending = ending;
  text = puts_behind told wo wm wn (first_line spec) (free_says spec items).text (subst (Appends wo wm) same put) text;
  notes = notes;
  order = order_behind wo wm wn eo en (first_line spec) (free_says spec items).text (subst (Appends wo wm) same put) order;
  fails = tells_behind told fo fm fn go gn (still fo fm (Ok x) refl f) fails;
}

-- ---- what was told

told_so : (spec : SpecTree) (blocks : Blocks) (items : List HistItem) (wo wn eo en : Option (List ℕ)) (told : Result Ended ReportFault) → IsFreeRegular spec blocks items
    → EndsAs (free_says spec items).ending told → Puts wo wn (free_text spec items) told → Puts eo en (free_says spec items).notes told
    → IsTrue (has_ended (free_told told)) → IsFreeTold spec blocks wo wn eo en (free_told told)
told_so spec blocks items wo wn eo en (Ok e) regular ending text notes early = record { items = items; regular = regular; answer = answers_ok (free_says spec items).ending e ending; text = text; notes = notes }
told_so spec blocks items wo wn eo en (Err (writes.SetupFailed why)) regular ending text notes early = record { items = items; regular = regular; answer = answers_err (free_says spec items).ending (writes.SetupFailed why) ending early; text = text; notes = notes }
told_so spec blocks items wo wn eo en (Err writes.SetupWaits) regular ending text notes early = record { items = items; regular = regular; answer = answers_err (free_says spec items).ending writes.SetupWaits ending early; text = text; notes = notes }
told_so spec blocks items wo wn eo en (Err writes.Write) regular ending text notes early = absurd cc
told_so spec blocks items wo wn eo en (Err writes.Memory) regular ending text notes early = absurd cc

kind_so : (told : Result Ended ReportFault) → IfErr (free_told told) (λ e. is_of_one e ≡ true)
kind_so (Ok e) = tt
kind_so (Err (writes.SetupFailed why)) = refl
kind_so (Err writes.SetupWaits) = refl
kind_so (Err writes.Write) = refl
kind_so (Err writes.Memory) = refl

unbroken_so : (told : Result Ended ReportFault) → has_broken (free_told told) ≡ false
unbroken_so (Ok e) = refl
unbroken_so (Err (writes.SetupFailed why)) = refl
unbroken_so (Err writes.SetupWaits) = refl
unbroken_so (Err writes.Write) = refl
unbroken_so (Err writes.Memory) = refl

fails_so : (told : Result Ended ReportFault) (fo fn go gn : Bool) → TellsFailure fo fn go gn told → IsErrOf (free_told told) faults.Write → (fn || gn) ≡ true
fails_so (Ok e) fo fn go gn fails is = absurd cc
fails_so (Err (writes.SetupFailed why)) fo fn go gn fails is = absurd cc
fails_so (Err writes.SetupWaits) fo fn go gn fails is = absurd cc
fails_so (Err writes.Write) fo fn go gn fails is = fails
fails_so (Err writes.Memory) fo fn go gn fails is = absurd cc

module _ (spec : SpecTree) (items : List HistItem) (wo wn eo en : Option (List ℕ)) (fo fn go gn : Bool) (result : Result (Unit {0}) RunFault) where
  pub free_is_told : (blocks : Blocks) → IsFreeRegular spec blocks items → IsFreeWritten spec items wo wn eo en fo fn go gn result → IsTrue (has_ended result) → IsFreeTold spec blocks wo wn eo en result
  free_is_told blocks regular w ended =
      let so = told_so spec blocks items wo wn eo en w.told regular w.ending w.text w.notes (subst (λ (r : Result (Unit {0}) RunFault). IsTrue (has_ended r)) w.is ended) in
      subst (λ (r : Result (Unit {0}) RunFault). IsFreeTold spec blocks wo wn eo en r) (sym w.is) so

  pub free_kind : IsFreeWritten spec items wo wn eo en fo fn go gn result → IfErr result (λ e. is_of_one e ≡ true)
  free_kind w = subst (λ (r : Result (Unit {0}) RunFault). IfErr r (λ e. is_of_one e ≡ true)) (sym w.is) (kind_so w.told)

  pub free_unbroken : IsFreeWritten spec items wo wn eo en fo fn go gn result → has_broken result ≡ false
  free_unbroken w = ap has_broken w.is ∙ unbroken_so w.told

  pub free_fails : IsFreeWritten spec items wo wn eo en fo fn go gn result → IsErrOf result faults.Write → (fn || gn) ≡ true
  free_fails w is = fails_so w.told fo fn go gn w.fails (sym w.is ∙ is)
