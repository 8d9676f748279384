-- The loop over the permutations that run.
use Rattle.std.proofs.Common.{◌≡◌, ℕ, suc, ◌+◌, ◌-◌, ◌<◌, List, [], ◌∷◌, ◌++◌, Option, Result, Ok, Err, refl, sym, ap, subst, ◌∙◌, arith, append_assoc}
use Rattle.std.proofs.lemmas.List.{append-nil}
use Rattle.std.specs.Io.KnownBytes.{Appends}
use Rattle.session_machine.specs.declared.reply.HistItem.{HistItem}
use Rattle.session_machine.specs.Machine.{Blocks}
use Rattle.spec_parser.specs.Trees.{EntryTree, SpecTree}
use Rattle.permutation_plans.specs.Regular.{IsRegular}
use Rattle.report_text.specs.Said.{Said, Ending, only_ends, whole, invalid, setup_failed, setup_waits, too_many}
use Rattle.report_text.specs.Permutation.{permutation_says}
use Rattle.spec_files.specs.declared.fault.RunFault.{RunFault}
use Rattle.spec_files.specs.declared.fault.RunFault.TheVariants as faults
use Rattle.spec_files.specs.Inner.GoesOn.{GoesOn}
use Rattle.spec_files.specs.Prints.{Prints}
use Rattle.spec_files.specs.Runs.{AnswersRun, IsTold, IsOneTold}
use Rattle.spec_files.specs.Broken.{RunBroken}
use Rattle.spec_files.proofs.Listing.{behind, appends_nothing, appends_more}

-- whatever is said of the permutations from here on completes what went out; so many are done
pub record SoFar (spec : SpecTree) (blocks : Blocks) (out_old out_new notes_old notes_new : Option (List ℕ)) (limit : ℕ) (all : List (List EntryTree)) (left : ℕ) (more : List (List EntryTree)) : Type 0 where
  pub text : List ℕ
  pub notes : List ℕ
  pub done : ℕ
  pub out : Appends out_old out_new text
  pub noted : Appends notes_old notes_new notes
  pub split : done + left ≡ limit
  pub told : (extra : ℕ) (rest : Said) → Prints spec blocks extra more rest → Prints spec blocks (done + extra) all (behind text notes rest)

same_said : (said : Said) → behind [] [] said ≡ said
same_said said = refl

pub starts : (spec : SpecTree) (blocks : Blocks) (out notes : Option (List ℕ)) (limit : ℕ) (all : List (List EntryTree)) → SoFar spec blocks out out notes notes limit all limit all
starts spec blocks out notes limit all = record {
  text = [];
  notes = [];
  done = 0;
  out = appends_nothing out;
  noted = appends_nothing notes;
  split = omega arith;
  told = λ extra rest h. let e : extra ≡ 0 + extra = omega arith in subst (λ (n : ℕ). Prints spec blocks n all rest) e h;
}

-- the same, said of the same permutations in another way
pub still : (spec : SpecTree) (blocks : Blocks) (wo wn eo en : Option (List ℕ)) (limit : ℕ) (all : List (List EntryTree)) (left : ℕ) (more : List (List EntryTree)) (left_now : ℕ) (more_now : List (List EntryTree))
    → left_now ≡ left → more_now ≡ more → SoFar spec blocks wo wn eo en limit all left more → SoFar spec blocks wo wn eo en limit all left_now more_now
still spec blocks wo wn eo en limit all left more left_now more_now same_left same so =
    subst (λ (n : ℕ). SoFar spec blocks wo wn eo en limit all n more_now) (sym same_left)
    (subst (λ (ms : List (List EntryTree)). SoFar spec blocks wo wn eo en limit all left ms) (sym same) so)

behind_behind : (a b c d : List ℕ) (said : Said) → behind a c (behind b d said) ≡ behind (a ++ b) (c ++ d) said
behind_behind a b c d said =
    ap (λ (t : List ℕ). record { text = t; notes = c ++ (d ++ said.notes); ending = said.ending }) (sym (append_assoc a b said.text))
    ∙ ap (λ (t : List ℕ). record { text = (a ++ b) ++ said.text; notes = t; ending = said.ending }) (sym (append_assoc c d said.notes))

-- a report that ended by itself is followed by what the others say
others_follow : (ending : Ending) (Others : Said → Type 0) (rest : Said) → AnswersRun ending (Ok tt) → Others rest → GoesOn ending Others rest
others_follow whole Others rest a h = h
others_follow invalid Others rest a h = h
others_follow (setup_failed text) Others rest a h = absurd a
others_follow setup_waits Others rest a h = absurd (ok_err a)
  where
    ok_err : ◌≡◌ {A = Result (Unit {0}) RunFault} (Ok tt) (Err faults.SetupWaits) → ⊥
    ok_err e = cc
others_follow too_many Others rest a h = absurd (ok_err a)
  where
    ok_err : ◌≡◌ {A = Result (Unit {0}) RunFault} (Ok tt) (Err faults.TooManyPermutations) → ⊥
    ok_err e = cc

pub one_more : (spec : SpecTree) (blocks : Blocks) (extra : ℕ) (p : List EntryTree) (ps : List (List EntryTree)) (items : List HistItem) (rest : Said)
    → IsRegular spec blocks p items → GoesOn (permutation_says spec p items).ending (Prints spec blocks extra ps) rest
    → Prints spec blocks (suc extra) (p ∷ ps) (behind (permutation_says spec p items).text (permutation_says spec p items).notes rest)
unfolding Prints
one_more spec blocks extra p ps items rest regular goes = (items, rest, regular, goes, refl)

-- one more permutation was run to its end
pub goes_on : (spec : SpecTree) (blocks : Blocks) (wo wm wn eo em en : Option (List ℕ)) (limit : ℕ) (all : List (List EntryTree)) (left : ℕ) (more : List (List EntryTree)) (p : List EntryTree) (ps : List (List EntryTree))
    → SoFar spec blocks wo wm eo em limit all left more → more ≡ p ∷ ps → 0 < left → IsOneTold spec blocks p wm wn em en (Ok tt) → SoFar spec blocks wo wn eo en limit all (left - 1) ps
goes_on spec blocks wo wm wn eo em en limit all left more p ps so is lt one =
    let says = permutation_says spec p one.items in
    record {
      text = so.text ++ says.text;
      notes = so.notes ++ says.notes;
      done = so.done + 1;
      out = appends_more wo wm wn so.text says.text so.out one.text;
      noted = appends_more eo em en so.notes says.notes so.noted one.notes;
      split = omega (arith, so.split);
      told = λ extra rest h.
          let here : Prints spec blocks (suc extra) more (behind says.text says.notes rest) =
          subst (λ (ms : List (List EntryTree)). Prints spec blocks (suc extra) ms (behind says.text says.notes rest)) (sym is)
          (one_more spec blocks extra p ps one.items rest one.regular (others_follow says.ending (Prints spec blocks extra ps) rest one.answer h)) in
          let e : so.done + suc extra ≡ so.done + 1 + extra = omega arith in
          subst (λ (n : ℕ). Prints spec blocks n all (behind (so.text ++ says.text) (so.notes ++ says.notes) rest)) e
          (subst (Prints spec blocks (so.done + suc extra) all) (behind_behind so.text says.text so.notes says.notes rest) (so.told (suc extra) (behind says.text says.notes rest) here));
    }

-- ---- the ends

-- a run that says this, and whose text and notes went out
pub record IsPrinted (spec : SpecTree) (blocks : Blocks) (limit : ℕ) (all : List (List EntryTree)) (wo wn eo en : Option (List ℕ)) (result : Result (Unit {0}) RunFault) : Type 0 where
  pub said : Said
  pub prints : Prints spec blocks limit all said
  pub told : IsTold wo wn eo en result said

ends : (spec : SpecTree) (blocks : Blocks) (wo wn eo en : Option (List ℕ)) (limit : ℕ) (all : List (List EntryTree)) (left : ℕ) (more : List (List EntryTree)) (result : Result (Unit {0}) RunFault) (how : Ending)
    → SoFar spec blocks wo wn eo en limit all left more → Prints spec blocks left more (only_ends how) → AnswersRun how result → IsPrinted spec blocks limit all wo wn eo en result
ends spec blocks wo wn eo en limit all left more result how so prints answers = record {
  said = behind so.text so.notes (only_ends how);
  prints = subst (λ (n : ℕ). Prints spec blocks n all (behind so.text so.notes (only_ends how))) so.split (so.told left (only_ends how) prints);
  told = record {
    answer = answers;
    text = subst (Appends wo wn) (sym (append-nil so.text)) so.out;
    notes = subst (Appends eo en) (sym (append-nil so.notes)) so.noted;
  };
}

prints_nothing : (spec : SpecTree) (blocks : Blocks) (left : ℕ) (more : List (List EntryTree)) → more ≡ [] → Prints spec blocks left more (only_ends whole)
unfolding Prints
prints_nothing spec blocks left more is = subst (λ (ms : List (List EntryTree)). Prints spec blocks left ms (only_ends whole)) (sym is) refl

prints_too_many : (spec : SpecTree) (blocks : Blocks) (left : ℕ) (more : List (List EntryTree)) (p : List EntryTree) (ps : List (List EntryTree)) → more ≡ p ∷ ps → left ≡ 0 → Prints spec blocks left more (only_ends too_many)
unfolding Prints
prints_too_many spec blocks left more p ps is none =
    let here : Prints spec blocks 0 (p ∷ ps) (only_ends too_many) = refl in
    subst (λ (n : ℕ). Prints spec blocks n more (only_ends too_many)) (sym none) (subst (λ (ms : List (List EntryTree)). Prints spec blocks 0 ms (only_ends too_many)) (sym is) here)

-- all permutations ran
pub all_ran : (spec : SpecTree) (blocks : Blocks) (wo wn eo en : Option (List ℕ)) (limit : ℕ) (all : List (List EntryTree)) (left : ℕ) (more : List (List EntryTree))
    → SoFar spec blocks wo wn eo en limit all left more → more ≡ [] → IsPrinted spec blocks limit all wo wn eo en (Ok tt)
all_ran spec blocks wo wn eo en limit all left more so is = ends spec blocks wo wn eo en limit all left more (Ok tt) whole so (prints_nothing spec blocks left more is) refl

-- there is one more than may run
pub one_too_many : (spec : SpecTree) (blocks : Blocks) (wo wn eo en : Option (List ℕ)) (limit : ℕ) (all : List (List EntryTree)) (left : ℕ) (more : List (List EntryTree)) (p : List EntryTree) (ps : List (List EntryTree))
    → SoFar spec blocks wo wn eo en limit all left more → more ≡ p ∷ ps → left ≡ 0 → IsPrinted spec blocks limit all wo wn eo en (Err faults.TooManyPermutations)
one_too_many spec blocks wo wn eo en limit all left more p ps so is none = ends spec blocks wo wn eo en limit all left more (Err faults.TooManyPermutations) too_many so (prints_too_many spec blocks left more p ps is none) refl

-- a setup failed or waits
record Stops (ending : Ending) (Others : Said → Type 0) (result : Result (Unit {0}) RunFault) : Type 0 where
  how : Ending
  goes : GoesOn ending Others (only_ends how)
  answers : AnswersRun how result

stops : (ending : Ending) (Others : Said → Type 0) (e : RunFault) → AnswersRun ending (Err e) → Stops ending Others (Err e)
stops whole Others e a = absurd (err_ok e a)
  where
    err_ok : (e : RunFault) → ◌≡◌ {A = Result (Unit {0}) RunFault} (Err e) (Ok tt) → ⊥
    err_ok e same = cc
stops invalid Others e a = absurd (err_ok e a)
  where
    err_ok : (e : RunFault) → ◌≡◌ {A = Result (Unit {0}) RunFault} (Err e) (Ok tt) → ⊥
    err_ok e same = cc
stops (setup_failed text) Others e a = record { how = setup_failed text; goes = refl; answers = a }
stops setup_waits Others e a = record { how = setup_waits; goes = refl; answers = a }
stops too_many Others e a = record { how = too_many; goes = refl; answers = a }

pub run_stops : (spec : SpecTree) (blocks : Blocks) (wo wm wn eo em en : Option (List ℕ)) (limit : ℕ) (all : List (List EntryTree)) (left : ℕ) (more : List (List EntryTree)) (p : List EntryTree) (ps : List (List EntryTree)) (e : RunFault)
    → SoFar spec blocks wo wm eo em limit all left more → more ≡ p ∷ ps → 0 < left → IsOneTold spec blocks p wm wn em en (Err e) → IsPrinted spec blocks limit all wo wn eo en (Err e)
run_stops spec blocks wo wm wn eo em en limit all left more p ps e so is lt one =
    let says = permutation_says spec p one.items in
    let stop = stops says.ending (Prints spec blocks (left - 1) ps) e one.answer in
    let n : suc (left - 1) ≡ left = omega (arith, lt) in
    let here : Prints spec blocks left more (behind says.text says.notes (only_ends stop.how)) =
    subst (λ (k : ℕ). Prints spec blocks k more (behind says.text says.notes (only_ends stop.how))) n
    (subst (λ (ms : List (List EntryTree)). Prints spec blocks (suc (left - 1)) ms (behind says.text says.notes (only_ends stop.how))) (sym is)
    (one_more spec blocks (left - 1) p ps one.items (only_ends stop.how) one.regular stop.goes)) in
    let whole_text = so.told left (behind says.text says.notes (only_ends stop.how)) here in
    record {
      said = behind so.text so.notes (behind says.text says.notes (only_ends stop.how));
      prints = subst (λ (k : ℕ). Prints spec blocks k all (behind so.text so.notes (behind says.text says.notes (only_ends stop.how)))) so.split whole_text;
      told = record {
        answer = stop.answers;
        text = subst (λ (t : List ℕ). Appends wo wn (so.text ++ t)) (sym (append-nil says.text)) (appends_more wo wm wn so.text says.text so.out one.text);
        notes = subst (λ (t : List ℕ). Appends eo en (so.notes ++ t)) (sym (append-nil says.notes)) (appends_more eo em en so.notes says.notes so.noted one.notes);
      };
    }

-- ---- a schedule that breaks

pub breaks : (spec : SpecTree) (blocks : Blocks) (wo wn eo en : Option (List ℕ)) (limit : ℕ) (all : List (List EntryTree)) (left : ℕ) (more : List (List EntryTree)) (p : List EntryTree) (ps : List (List EntryTree))
    → SoFar spec blocks wo wn eo en limit all left more → more ≡ p ∷ ps → 0 < left → RunBroken spec blocks limit all wo wn eo en
breaks spec blocks wo wn eo en limit all left more p ps so is lt =
    let e : so.done + 0 ≡ so.done = omega arith in
    record {
      done = so.done;
      said = behind so.text so.notes (only_ends too_many);
      fewer = omega (arith, so.split, lt);
      prints = subst (λ (n : ℕ). Prints spec blocks n all (behind so.text so.notes (only_ends too_many))) e (so.told 0 (only_ends too_many) (prints_too_many spec blocks 0 more p ps is refl));
      one_more = refl;
      text = subst (Appends wo wn) (sym (append-nil so.text)) so.out;
      notes = subst (Appends eo en) (sym (append-nil so.notes)) so.noted;
    }
