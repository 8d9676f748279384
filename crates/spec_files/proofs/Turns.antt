-- A draft that is written at its turn, as if its permutation had been written then.
use Rattle.std.proofs.Common.{◌≡◌, ◌≢◌, ◌⊎◌, inl, inr, ℕ, Bool, true, false, List, [], ◌∷◌, Option, Result, Ok, Err, refl, sym, ap, subst, ◌∙◌, arith}
use Rattle.std.specs.Prelude.{Contains, IsTrue, IfErr}
use Rattle.std.proofs.lemmas.List.Elements.{Contains-append_left, Contains-append_right, Contains-push}
use Rattle.std.specs.List.{All}
use Rattle.std.specs.Io.KnownBytes.{Appends}
use Rattle.iso_lexer.specs.Devices.{page_text, PutsFront}
use Rattle.session_machine.specs.Machine.{Blocks}
use Rattle.spec_parser.specs.Trees.{EntryTree, SpecTree}
use Rattle.report_text.specs.Permutation.{permutation_says}
use Rattle.spec_files.specs.declared.draft.Draft.{Draft}
use Rattle.spec_files.specs.declared.fault.RunFault.{RunFault}
use Rattle.spec_files.specs.declared.fault.RunFault.TheVariants as faults
use Rattle.spec_files.specs.Begun.{Begun, none, fronts, OneSays, report}
use Rattle.spec_files.proofs.Beginning.{notes_behind}
use Rattle.spec_files.specs.Complete.{HasItsBlocks, HasItsSteps}
use Rattle.spec_files.specs.Drafts.{IsDraft, entries_of}
use Rattle.spec_files.specs.Inner.Drafts.{to_come}
use Rattle.spec_files.specs.Runs.{has_ended, has_broken, is_of_one, IsOneTold}
use Rattle.spec_files.specs.Stopped.{IsStoppedByThreads}

-- it answers as the run did, or that a device failed
abbrev AnswersSo : Draft → Result (Unit {0}) RunFault → Type 0
AnswersSo draft result = (result ≡ draft.result) ⊎ (result ≡ Err faults.Write)

as_run : (draft : Draft) (result : Result (Unit {0}) RunFault) → AnswersSo draft result → IsTrue (has_ended result) → draft.result ≡ result
as_run draft result (inl same) ended = sym same
as_run draft result (inr failed) ended = absurd (let it : false ≡ true = ap has_ended (sym failed) ∙ ended in cc)

pub draft_told : (spec : SpecTree) (blocks : Blocks) (draft : Draft) (wo wn eo en : Option (List ℕ)) (result : Result (Unit {0}) RunFault)
    → IsDraft spec blocks draft → AnswersSo draft result → IsTrue (has_ended result)
    → Appends wo wn (page_text draft.text) → Appends eo en (page_text draft.notes) → IsOneTold spec blocks (entries_of draft) wo wn eo en result
draft_told spec blocks draft wo wn eo en result is answer ended put noted =
    let same = as_run draft result answer ended in
    let one = is.told (subst (λ (r : Result (Unit {0}) RunFault). IsTrue (has_ended r)) (sym same) ended) in
    subst (λ (r : Result (Unit {0}) RunFault). IsOneTold spec blocks (entries_of draft) wo wn eo en r) same (record {
      items = one.items;
      regular = one.regular;
      answer = one.answer;
      text = subst (Appends wo wn) one.text put;
      notes = subst (Appends eo en) one.notes noted;
    })

begun_of : (spec : SpecTree) (blocks : Blocks) (draft : Draft) (wo wn eo en : Option (List ℕ)) (ended : Bool) → has_ended draft.result ≡ ended → IsDraft spec blocks draft
    → (IsTrue (has_ended draft.result) → PutsFront wo wn (page_text draft.text) × PutsFront eo en (page_text draft.notes))
    → (has_ended draft.result ≡ false → (wn ≡ wo) × (en ≡ eo)) → (en ≡ eo) ⊎ Appends wo wn (page_text draft.text) → Begun (OneSays spec blocks (entries_of draft)) wo wn eo en
begun_of spec blocks draft wo wn eo en false at is front nothing order = let same = nothing at in none same.0 same.1
begun_of spec blocks draft wo wn eo en true at is front nothing order =
    let one = is.told at in
    let put = front at in
    let says = permutation_says spec (entries_of draft) one.items in
    let noted = subst (PutsFront eo en) one.notes put.1 in
    fronts _ _ (report one.items one.regular) (subst (PutsFront wo wn) one.text put.0) noted
    (notes_behind (OneSays spec blocks (entries_of draft)) wo wn eo en says.text says.notes (report one.items one.regular) noted (subst (λ (t : List ℕ). (en ≡ eo) ⊎ Appends wo wn t) one.text order))

pub draft_begun : (spec : SpecTree) (blocks : Blocks) (draft : Draft) (wo wn eo en : Option (List ℕ)) → IsDraft spec blocks draft
    → (IsTrue (has_ended draft.result) → PutsFront wo wn (page_text draft.text) × PutsFront eo en (page_text draft.notes))
    → (has_ended draft.result ≡ false → (wn ≡ wo) × (en ≡ eo)) → (en ≡ eo) ⊎ Appends wo wn (page_text draft.text) → Begun (OneSays spec blocks (entries_of draft)) wo wn eo en
draft_begun spec blocks draft wo wn eo en is front nothing order = begun_of spec blocks draft wo wn eo en (has_ended draft.result) refl is front nothing order

-- a run that came to no end has not ended
unended : (result : Result (Unit {0}) RunFault) → IsTrue (has_broken result) → has_ended result ≡ false
unended (Ok x) broken = absurd cc
unended (Err faults.ScheduleBroken) broken = refl
unended (Err (faults.Threads f)) broken = refl
unended (Err faults.Read) broken = absurd cc
unended (Err faults.Write) broken = absurd cc
unended (Err (faults.Lex f)) broken = absurd cc
unended (Err (faults.Spec f)) broken = absurd cc
unended (Err (faults.Sql f)) broken = absurd cc
unended (Err (faults.SetupFailed text)) broken = absurd cc
unended (Err faults.SetupWaits) broken = absurd cc
unended (Err faults.TooManyPermutations) broken = absurd cc
unended (Err (faults.NotUtf8 at)) broken = absurd cc
unended (Err faults.Memory) broken = absurd cc

pub draft_broken : (draft : Draft) (result : Result (Unit {0}) RunFault) → AnswersSo draft result → IsTrue (has_broken result) → has_ended draft.result ≡ false
draft_broken draft result (inl same) broken = subst (λ (r : Result (Unit {0}) RunFault). has_ended r ≡ false) same (unended result broken)
draft_broken draft result (inr failed) broken = absurd (let it : false ≡ true = ap has_broken (sym failed) ∙ broken in cc)

pub draft_unbroken : (spec : SpecTree) (blocks : Blocks) (draft : Draft) (result : Result (Unit {0}) RunFault) → IsDraft spec blocks draft → AnswersSo draft result → result ≢ Err faults.ScheduleBroken
draft_unbroken spec blocks draft result is (inl same) broken = is.unbroken (sym same ∙ broken)
draft_unbroken spec blocks draft result is (inr failed) broken = absurd (let it : false ≡ true = ap has_broken (sym failed ∙ broken) in cc)

pub draft_kinds : (spec : SpecTree) (blocks : Blocks) (draft : Draft) (result : Result (Unit {0}) RunFault) → IsDraft spec blocks draft → AnswersSo draft result → IfErr result (λ e. is_of_one e ≡ true)
draft_kinds spec blocks draft result is (inl same) = subst (λ (r : Result (Unit {0}) RunFault). IfErr r (λ e. is_of_one e ≡ true)) (sym same) is.kinds
draft_kinds spec blocks draft result is (inr failed) = subst (λ (r : Result (Unit {0}) RunFault). IfErr r (λ e. is_of_one e ≡ true)) (sym failed) refl

pub draft_sure : (spec : SpecTree) (blocks : Blocks) (draft : Draft) (result : Result (Unit {0}) RunFault) → IsDraft spec blocks draft → AnswersSo draft result
    → HasItsBlocks spec blocks → HasItsSteps spec (entries_of draft) → IsStoppedByThreads result
draft_sure spec blocks draft result is (inl same) there steps = subst IsStoppedByThreads (sym same) (is.sure there steps)
draft_sure spec blocks draft result is (inr failed) there steps = subst IsStoppedByThreads (sym failed) (λ broken. absurd (let it : false ≡ true = broken in cc))

-- the permutation whose turn it is, and those behind it, are among all
pub is_among : (all more rest : List (List EntryTree)) (entries : List EntryTree) → ((p : List EntryTree) → Contains more p → Contains all p) → more ≡ entries ∷ rest → Contains all entries
is_among all more rest entries among next =
    among entries (subst (λ (ps : List (List EntryTree)). Contains ps entries) (sym next) (Contains-append_left (entries ∷ []) rest entries (Contains-push [] entries)))

pub rest_among : (all more rest : List (List EntryTree)) (entries : List EntryTree) → ((p : List EntryTree) → Contains more p → Contains all p) → more ≡ entries ∷ rest
    → (p : List EntryTree) → Contains rest p → Contains all p
rest_among all more rest entries among next p is = among p (subst (λ (ps : List (List EntryTree)). Contains ps p) (sym next) (Contains-append_right (entries ∷ []) rest p is))

-- before the first turn
pub no_drafts : (spec : SpecTree) (blocks : Blocks) (drafts : List Draft) → drafts ≡ [] → All (IsDraft spec blocks) drafts
no_drafts spec blocks drafts is = subst (λ (ds : List Draft). All (IsDraft spec blocks) ds) (sym is) (λ k d lt. absurd (omega (arith, lt)))

pub all_come : (drafts : List Draft) (behind all : List (List EntryTree)) → drafts ≡ [] → behind ≡ all → all ≡ to_come drafts behind
all_come drafts behind all no_draft same = sym same ∙ ap (λ (ds : List Draft). to_come ds behind) (sym no_draft)

-- the first of some permutations
pub record IsFirst (more : List (List EntryTree)) : Type 0 where
  pub first : List EntryTree
  pub rest : List (List EntryTree)
  pub is : more ≡ first ∷ rest

pub first_of : (more : List (List EntryTree)) → more ≢ [] → IsFirst more
first_of [] some = absurd (some refl)
first_of (p ∷ ps) some = record { first = p; rest = ps; is = refl }

-- where some are left and none came, no more may run
pub none_left : (before now : ℕ) (more rest : List (List EntryTree)) → now ≡ before → rest ≡ more → rest ≢ [] → (before ≡ 0) ⊎ (more ≡ []) → now ≡ 0
none_left before now more rest same_left same some (inl zero_left) = same_left ∙ zero_left
none_left before now more rest same_left same some (inr over) = absurd (some (same ∙ over))
