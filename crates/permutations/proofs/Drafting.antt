-- The drafts of permutations that one crew has run, as they are written one after the other.
use Rattle.std.proofs.Common.{◌≡◌, ◌≢◌, ◌⊎◌, inl, inr, ℕ, ◌+◌, ◌<◌, get_or, take, drop, zero, suc, List, [], ◌∷◌, ◌++◌, length, map, Option, Some, true, refl, sym, ap, subst, ◌∙◌, arith, append-nil, append_assoc}
use Rattle.std.proofs.lemmas.List.{length-map, map-append, take_more, take-append-drop}
use Rattle.std.proofs.lemmas.List.Elements.{All-append}
use Rattle.std.specs.List.{All}
use Rattle.std.specs.Global.{Vec}
use Rattle.std.specs.Prelude.{Result, Err, IfErr, IsTrue}
use Rattle.iso_lexer.specs.Devices.{page_text}
use Rattle.iso_lexer.specs.declared.page.Page.{Page}
use Rattle.session_machine.specs.Machine.{Blocks}
use Rattle.spec_parser.specs.declared.tree.Entry.{Entry}
use Rattle.spec_parser.specs.Trees.{SpecTree, entry_view, perm_view}
use Rattle.spec_files.specs.declared.draft.Draft.{Draft}
use Rattle.spec_files.specs.declared.fault.RunFault.{RunFault}
use Rattle.spec_files.specs.declared.fault.RunFault.TheVariants as faults
use Rattle.spec_files.specs.Drafts.{AreDrafts, IsDraft, entries_read}
use Rattle.spec_files.specs.Plans.{Planning}
use Rattle.spec_files.specs.Runs.{is_of_one, has_ended, IsOneTold}
use Rattle.spec_files.specs.Stopped.{IsStoppedSo}
use Rattle.permutations.specs.Inner.Runs.{ArePlans, IsPlanOf}

-- what a run came to, told of it with its pages in memory, is a draft of it
pub drafted : (spec : SpecTree) (blocks : Blocks) (entries : Vec Entry) (lent : List Entry) (text notes : Page) (old_text old_notes : Option (List ℕ)) (told result : Result (Unit {0}) RunFault)
    → lent ≡ entries.items → old_text ≡ Some [] → old_notes ≡ Some []
    → (IsTrue (has_ended told) → IsOneTold spec blocks (map entry_view lent) old_text (Some (page_text text)) old_notes (Some (page_text notes)) told)
    → told ≢ Err faults.ScheduleBroken → IfErr told (λ e. is_of_one e ≡ true) → IsStoppedSo spec blocks (map entry_view lent) told
    → (result ≡ told) ⊎ (result ≡ Err faults.Memory) → result ≢ Err faults.Write
    → IsDraft spec blocks (record { entries = entries; text = text; notes = notes; result = result })
drafted spec blocks entries lent text notes old_text old_notes told result same empty none begun unbroken kinds sure (inr lacking) unwritten =
    subst (λ (r : Result (Unit {0}) RunFault). IsDraft spec blocks (record { entries = entries; text = text; notes = notes; result = r })) (sym lacking)
    (record { told = λ ended. absurd cc; unbroken = λ is. absurd cc; unwritten = λ is. absurd cc; kinds = refl; sure = λ fit steps broken. refl })
drafted spec blocks entries lent text notes old_text old_notes told result same empty none begun unbroken kinds sure (inl own) unwritten =
    record {
      told = λ ended.
          subst (λ (r : Result (Unit {0}) RunFault). IsOneTold spec blocks (map entry_view entries.items) (Some []) (Some (page_text text)) (Some []) (Some (page_text notes)) r) (sym own)
          (subst (λ (es : List Entry). IsOneTold spec blocks (map entry_view es) (Some []) (Some (page_text text)) (Some []) (Some (page_text notes)) told) same
          (subst (λ (before : Option (List ℕ)). IsOneTold spec blocks (map entry_view lent) (Some []) (Some (page_text text)) before (Some (page_text notes)) told) none
          (subst (λ (before : Option (List ℕ)). IsOneTold spec blocks (map entry_view lent) before (Some (page_text text)) old_notes (Some (page_text notes)) told) empty
          (begun (subst (λ (r : Result (Unit {0}) RunFault). IsTrue (has_ended r)) own ended)))));
      unbroken = λ is. unbroken (sym own ∙ is);
      unwritten = unwritten;
      kinds = subst (λ (r : Result (Unit {0}) RunFault). IfErr r (λ e. is_of_one e ≡ true)) (sym own) kinds;
      sure =
          subst (λ (r : Result (Unit {0}) RunFault). IsStoppedSo spec blocks (map entry_view entries.items) r) (sym own)
          (subst (λ (es : List Entry). IsStoppedSo spec blocks (map entry_view es) told) same sure);
    }

-- one more plan
pub planned_more : (spec : SpecTree) (taken : List (Vec Entry)) (plans : List Planning) (entries : Vec Entry) (plan : Planning)
    → length plans ≡ length taken → ArePlans spec taken plans → IsPlanOf spec (perm_view entries) plan → ArePlans spec (taken ++ entries ∷ []) (plans ++ plan ∷ [])
planned_more spec [] [] entries plan same are is = (is, tt)
planned_more spec [] (p ∷ ps) entries plan same are is = absurd are
planned_more spec (e ∷ es) [] entries plan same are is = absurd (omega (arith, same))
planned_more spec (e ∷ es) (p ∷ ps) entries plan same are is = (are.0, planned_more spec es ps entries plan (omega (arith, same)) are.1 is)

-- plans of some are plans of more
pub planned_front : (spec : SpecTree) (taken behind : List (Vec Entry)) (plans : List Planning) → ArePlans spec taken plans → ArePlans spec (taken ++ behind) plans
planned_front spec taken behind [] are = tt
planned_front spec [] behind (p ∷ ps) are = absurd are
planned_front spec (e ∷ es) behind (p ∷ ps) are = (are.0, planned_front spec es behind ps are.1)

-- those that are written are drafts of the first, and the others are still to be written
pub record Written (is_draft : Draft → Type 0) (taken left : List (Vec Entry)) (drafts : List Draft) : Type 0 where
  pub given : All is_draft drafts
  pub entries : map entries_read drafts ++ left ≡ taken

only : {X : Type 0} (P : X → Type 0) (x : X) → P x → All P (x ∷ [])
only P x p zero or lt = p
only P x p (suc k) or lt = absurd (omega (arith, lt))

pub written_more : (is_draft : Draft → Type 0) (taken left rest : List (Vec Entry)) (drafts now : List Draft) (entries : Vec Entry) (draft : Draft)
    → Written is_draft taken left drafts → left ≡ entries ∷ rest → now ≡ drafts ++ draft ∷ [] → is_draft draft → draft.entries ≡ entries → Written is_draft taken rest now
written_more is_draft taken left rest drafts now entries draft so first pushed is own = record {
  given = subst (All is_draft) (sym pushed) (All-append is_draft drafts (draft ∷ []) so.given (only is_draft draft is));
  entries =
      ap (λ (ds : List Draft). map entries_read ds ++ rest) pushed
      ∙ ap (λ (es : List (Vec Entry)). es ++ rest) (map-append entries_read drafts (draft ∷ []))
      ∙ append_assoc (map entries_read drafts) (draft.entries ∷ []) rest
      ∙ ap (λ (e : Vec Entry). map entries_read drafts ++ e ∷ rest) own
      ∙ ap (λ (es : List (Vec Entry)). map entries_read drafts ++ es) (sym first)
      ∙ so.entries;
}

pub written_all : (is_draft : Draft → Type 0) (taken left : List (Vec Entry)) (drafts : Vec Draft) → Written is_draft taken left drafts.items → length left ≡ 0 → AreDrafts is_draft taken drafts
written_all is_draft taken [] drafts so none = record { given = so.given; entries = sym (append-nil (map entries_read drafts.items)) ∙ so.entries }
written_all is_draft taken (e ∷ es) drafts so none = absurd (omega (arith, none))

pub written_none : (is_draft : Draft → Type 0) (taken left : List (Vec Entry)) (drafts : List Draft) → left ≡ taken → drafts ≡ [] → Written is_draft taken left drafts
written_none is_draft taken left drafts same none = record {
  given = subst (All is_draft) (sym none) (λ k or lt. absurd (omega (arith, lt)));
  entries = ap (λ (ds : List Draft). map entries_read ds ++ left) none ∙ same;
}

-- plans of the first ones are plans of all
pub planned_of : (spec : SpecTree) (n : ℕ) (taken : List (Vec Entry)) (plans : List Planning) → ArePlans spec (take n taken) plans → ArePlans spec taken plans
planned_of spec n taken plans are = subst (λ (es : List (Vec Entry)). ArePlans spec es plans) (take-append-drop n taken) (planned_front spec (take n taken) (drop n taken) plans are)

-- one more plan, of the next one
pub planned_on : {R : Type 0} (driver : R → Planning) (spec : SpecTree) (n : ℕ) (taken : List (Vec Entry)) (entries : Vec Entry) (so_far now : List R) (run : R)
    → length so_far ≡ n → n < length taken → get_or taken n entries ≡ entries → length (take n taken) ≡ n → ArePlans spec (take n taken) (map driver so_far) → IsPlanOf spec (perm_view entries) (driver run)
    → now ≡ so_far ++ run ∷ [] → ArePlans spec (take (n + 1) taken) (map driver now)
planned_on {R = R} driver spec n taken entries so_far now run count lt it long are is pushed =
    let plans : map driver now ≡ map driver so_far ++ driver run ∷ [] = ap (map driver) pushed ∙ map-append driver so_far (run ∷ []) in
    let front : take (n + 1) taken ≡ take n taken ++ entries ∷ [] = take_more taken n entries lt ∙ ap (λ (e : Vec Entry). take n taken ++ e ∷ []) it in
    let same : length (map driver so_far) ≡ length (take n taken) = length-map so_far driver ∙ count ∙ sym long in
    subst (λ (es : List (Vec Entry)). ArePlans spec es (map driver now)) (sym front)
    (subst (ArePlans spec (take n taken ++ entries ∷ [])) (sym plans) (planned_more spec (take n taken) (map driver so_far) entries (driver run) same are is))

-- what holds of each holds of one more
pub all_more : {X : Type 0} (so_far now : List X) (x : X) (P : X → Type 0) → All P so_far → P x → now ≡ so_far ++ x ∷ [] → All P now
all_more {X = X} so_far now x P all is pushed =
    subst (All P) (sym pushed) (All-append P so_far (x ∷ []) all (only P x is))
