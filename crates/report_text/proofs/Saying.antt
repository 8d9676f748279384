-- One thing said after another.
use Rattle.std.proofs.Common.{◌≡◌, ℕ, ◌≤◌, ◌++◌, List, [], ◌∷◌, Bool, true, false, Result, Ok, Err, OnOk, refl, sym, ap, ◌∙◌, arith, append-nil, append_assoc}
use Rattle.std.specs.Prelude.{◌+◌, nat_le, IfOk, if◌then◌else◌}
use Rattle.session_machine.specs.declared.reply.HistItem.{HistItem}
use Rattle.spec_parser.specs.Trees.{EntryTree, SpecTree}
use Rattle.report_lines.specs.History.{PermutationRun}
use Rattle.report_lines.specs.Due.{went_well}
use Rattle.report_lines.specs.Report.{report}
use Rattle.report_lines.specs.declared.history.RunState.{RunState}
use Rattle.report_lines.specs.declared.history.RunState.TheVariants.{Due, Whole, Invalid}
use Rattle.report_text.specs.Said.{Ending, whole, invalid, setup_failed, setup_waits, too_many, Said, says, ◌>>◌}
use Rattle.report_text.specs.Code.Turns.{is_whole}
use Rattle.report_text.specs.Inner.Permutation.{setups_say, entries_say}
use Rattle.report_text.specs.Code.Turns.{state_says}
use Rattle.report_text.specs.Answers.{ending_of}
use Rattle.report_text.specs.declared.fault.Ending.{Ending as Found}
use Rattle.report_text.specs.declared.fault.Ending.TheVariants as found

pub after_whole : (a b : Said) → a.ending ≡ whole → (a >> b) ≡ record { text = a.text ++ b.text; notes = a.notes ++ b.notes; ending = b.ending }
after_whole a b e = rw e refl

end_case : (text notes : List ℕ) (ending : Ending) (b : Said) → is_whole ending ≡ false → (let a : Said = record { text = text; notes = notes; ending = ending } in (a >> b) ≡ a)
end_case text notes whole b h = cc
end_case text notes invalid b h = refl
end_case text notes (setup_failed why) b h = refl
end_case text notes setup_waits b h = refl
end_case text notes too_many b h = refl

pub at_end : (a b : Said) → is_whole a.ending ≡ false → (a >> b) ≡ a
at_end a b e = end_case a.text a.notes a.ending b e

-- setups that are not there say nothing
pub setups_gone : (items : List HistItem) (count k : ℕ) (ss : List ℕ) → count ≤ k → setups_say items count k ss ≡ says []
setups_gone items count k [] h = refl
setups_gone items count k (s ∷ ss) h = let e : nat_le count k ≡ true = grind arith in rw e refl

notes_if : (b c : Bool) (x y z : Said) → x.notes ≡ [] → y.notes ≡ [] → z.notes ≡ [] → (if b then x else (if c then y else z)).notes ≡ []
notes_if true c x y z e f g = e
notes_if false true x y z e f g = f
notes_if false false x y z e f g = g

-- setups say nothing on the notes
pub setups_notes : (items : List HistItem) (count k : ℕ) (ss : List ℕ) → (setups_say items count k ss).notes ≡ []
setups_notes items count k [] = refl
setups_notes items count k (s ∷ ss) =
    notes_if (nat_le count k) (went_well items k s) _ _ _ refl (setups_notes items count (k + 1) ss) refl

-- what is left says nothing, so all is said
pub gone_text : (page left old all : List ℕ) → left ≡ [] → page ++ left ≡ old ++ all → page ≡ old ++ all
gone_text page left old all e h = sym (append-nil page) ∙ ap (λ l. page ++ l) (sym e) ∙ h

pub text_after : (a b : Said) (old mid new : List ℕ) → a.ending ≡ whole → mid ≡ old ++ a.text → new ≡ mid ++ b.text → new ≡ old ++ (a >> b).text
text_after a b old mid new w e h =
    h ∙ ap (λ l. l ++ b.text) e ∙ append_assoc old a.text b.text ∙ ap (λ (t : Said). old ++ t.text) (sym (after_whole a b w))

pub notes_after : (a b : Said) (old new : List ℕ) → a.ending ≡ whole → a.notes ≡ [] → new ≡ old ++ b.notes → new ≡ old ++ (a >> b).notes
notes_after a b old new w none h = h ∙ ap (λ l. old ++ (l ++ b.notes)) (sym none) ∙ ap (λ (t : Said). old ++ t.notes) (sym (after_whole a b w))

pub ending_after : (a b : Said) → a.ending ≡ whole → b.ending ≡ whole → whole ≡ (a >> b).ending
ending_after a b w e = sym e ∙ ap (λ (t : Said). t.ending) (sym (after_whole a b w))

state_notes : (s : RunState) → (state_says s).notes ≡ []
state_notes (Due e) = refl
state_notes Whole = refl
state_notes Invalid = refl

-- the entries say nothing on the notes
pub entries_notes : (spec : SpecTree) (c : PermutationRun) (count : ℕ) → (entries_say spec c count).notes ≡ []
entries_notes spec c count = state_notes (report c count).state

-- ---- something, then what may end the report, then the rest

pub text_well : {A E : Type 0} (q : Result A E) (a : List ℕ) (s r : Said) (old mid new : List ℕ)
    → s.ending ≡ whole → mid ≡ old ++ (a ++ s.text) → OnOk q (new ≡ mid ++ r.text) → OnOk q (new ≡ old ++ (says a >> s >> r).text)
text_well (Ok x) a s r old mid new w e h =
    h ∙ ap (λ l. l ++ r.text) e ∙ append_assoc old (a ++ s.text) r.text
    ∙ ap (λ l. old ++ l) (append_assoc a s.text r.text ∙ ap (λ (t : Said). a ++ t.text) (sym (after_whole s r w)))
text_well (Err x) a s r old mid new w e h = tt

pub notes_well : {A E : Type 0} (q : Result A E) (a : List ℕ) (s r : Said) (old new : List ℕ)
    → s.ending ≡ whole → s.notes ≡ [] → OnOk q (new ≡ old ++ r.notes) → OnOk q (new ≡ old ++ (says a >> s >> r).notes)
notes_well (Ok x) a s r old new w n h = h ∙ ap (λ l. old ++ l) (ap (λ l. l ++ r.notes) (sym n) ∙ ap (λ (t : Said). t.notes) (sym (after_whole s r w)))
notes_well (Err x) a s r old new w n h = tt

pub ends_well : {E : Type 0} (q : Result Found E) (a : List ℕ) (s r : Said)
    → s.ending ≡ whole → IfOk q (λ e. ending_of e ≡ r.ending) → IfOk q (λ e. ending_of e ≡ (says a >> s >> r).ending)
ends_well (Ok e) a s r w h = h ∙ ap (λ (t : Said). t.ending) (sym (after_whole s r w))
ends_well (Err x) a s r w h = tt

pub text_early : (a : List ℕ) (s r : Said) (old new : List ℕ) → is_whole s.ending ≡ false → new ≡ old ++ (a ++ s.text) → new ≡ old ++ (says a >> s >> r).text
text_early a s r old new w h = h ∙ ap (λ (t : Said). old ++ (a ++ t.text)) (sym (at_end s r w))

pub notes_early : (a : List ℕ) (s r : Said) (old : List ℕ) → is_whole s.ending ≡ false → s.notes ≡ [] → old ≡ old ++ (says a >> s >> r).notes
notes_early a s r old w n = sym (append-nil old) ∙ ap (λ l. old ++ l) (sym n ∙ ap (λ (t : Said). t.notes) (sym (at_end s r w)))

pub ends_early : (a : List ℕ) (s r : Said) (e : Ending) → is_whole s.ending ≡ false → e ≡ s.ending → e ≡ (says a >> s >> r).ending
ends_early a s r e w h = h ∙ ap (λ (t : Said). t.ending) (sym (at_end s r w))

-- an ending other than Whole ends the report
pub ended : (e : Found) → (e ≡ found.Whole → ⊥) → is_whole (ending_of e) ≡ false
ended found.Whole h = absurd (h refl)
ended found.Invalid h = refl
ended (found.SetupFailed text) h = refl
ended found.SetupWaits h = refl

-- the run of a permutation, by its parts
abbrev pub permutation_run : List EntryTree → List HistItem → ℕ → PermutationRun
permutation_run entries items setups = record { entries = entries; items = items; setups = setups }
