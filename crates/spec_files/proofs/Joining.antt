-- The drafts of permutations that ran side by side, one after the other.
use Rattle.std.proofs.Common.{◌≡◌, refl, ℕ, take, drop, zero, suc, List, [], ◌∷◌, ◌++◌, length, map, sym, ap, subst, ◌∙◌, arith, append-nil, append_assoc}
use Rattle.std.proofs.lemmas.List.{map-append, take-append-drop}
use Rattle.std.proofs.lemmas.List.Elements.{All-append}
use Rattle.std.specs.List.{All}
use Rattle.std.specs.Global.{Vec}
use Rattle.spec_parser.specs.declared.tree.Entry.{Entry}
use Rattle.spec_files.specs.declared.draft.Draft.{Draft}
use Rattle.spec_files.specs.declared.side_by_side.Coming.{Coming}
use Rattle.spec_files.specs.declared.side_by_side.Coming.TheVariants.{There}
use Rattle.spec_files.specs.Drafts.{AreDrafts, entries_read}
use Rattle.spec_files.specs.Inner.Coming.{all_entries, coming_entries, IsComing}

of_one : {X : Type 0} (P : X → Type 0) (x : X) → P x → All P (x ∷ [])
of_one P x p zero d lt = p
of_one P x p (suc k) d lt = absurd (omega (arith, lt))

-- so are those that a thread ran, which was told what was lent and taken
pub kept : {L : Type 0} (gives : L → Draft → Type 0) (lent lent_told : L) (taken taken_told : Vec (Vec Entry)) (drafts : Vec Draft)
    → lent_told ≡ lent → taken_told ≡ taken → AreDrafts (gives lent) taken.items drafts → AreDrafts (gives lent_told) taken_told.items drafts
kept {L = L} gives lent lent_told taken taken_told drafts its own are =
    subst (λ (l : L). AreDrafts (gives l) taken_told.items drafts) (sym its)
    (subst (λ (v : Vec (Vec Entry)). AreDrafts (gives lent) v.items drafts) (sym own) are)

-- those that were begun, and those that are still to begin
pub record BegunSoFar {L : Type 0} (gives : L → Draft → Type 0) (lent : L) (begun : List (Coming L)) (behind taken : List (Vec Entry)) : Type 0 where
  pub coming : All (IsComing gives lent) begun
  pub entries : all_entries begun ++ behind ≡ taken

all_append : {L : Type 0} (one other : List (Coming L)) → all_entries (one ++ other) ≡ all_entries one ++ all_entries other
all_append [] other = refl
all_append (c ∷ cs) other = ap (λ (es : List (Vec Entry)). coming_entries c ++ es) (all_append cs other) ∙ sym (append_assoc (coming_entries c) (all_entries cs) (all_entries other))

begun_more : {L : Type 0} (gives : L → Draft → Type 0) (lent : L) (coming now : List (Coming L)) (more : Coming L) (old first behind taken : List (Vec Entry))
    → BegunSoFar gives lent coming old taken → now ≡ coming ++ more ∷ [] → IsComing gives lent more → coming_entries more ≡ first → old ≡ first ++ behind → BegunSoFar gives lent now behind taken
begun_more {L = L} gives lent coming now more old first behind taken so pushed is its cut = record {
  coming = subst (All (IsComing gives lent)) (sym pushed) (All-append (IsComing gives lent) coming (more ∷ []) so.coming (of_one (IsComing gives lent) more is));
  entries =
      ap (λ (cs : List (Coming L)). all_entries cs ++ behind) pushed
      ∙ ap (λ (es : List (Vec Entry)). es ++ behind) (all_append coming (more ∷ []))
      ∙ append_assoc (all_entries coming) (coming_entries more ++ []) behind
      ∙ ap (λ (es : List (Vec Entry)). all_entries coming ++ (es ++ behind)) (append-nil (coming_entries more) ∙ its)
      ∙ ap (λ (es : List (Vec Entry)). all_entries coming ++ es) (sym cut)
      ∙ so.entries;
}

pub begun_first : {L : Type 0} (gives : L → Draft → Type 0) (lent : L) (coming now : List (Coming L)) (more : Coming L) (n : ℕ) (old first behind taken : List (Vec Entry))
    → BegunSoFar gives lent coming old taken → now ≡ coming ++ more ∷ [] → IsComing gives lent more → coming_entries more ≡ first → first ≡ take n old → behind ≡ drop n old → BegunSoFar gives lent now behind taken
begun_first gives lent coming now more n old first behind taken so pushed is its front rest =
    begun_more gives lent coming now more old first behind taken so pushed is its
    (sym (take-append-drop n old) ∙ ap (λ (es : List (Vec Entry)). es ++ drop n old) (sym front) ∙ ap (λ (es : List (Vec Entry)). first ++ es) (sym rest))

pub begun_all : {L : Type 0} (gives : L → Draft → Type 0) (lent : L) (coming now : List (Coming L)) (drafts : Vec Draft) (behind taken : List (Vec Entry))
    → BegunSoFar gives lent coming behind taken → now ≡ coming ++ There drafts ∷ [] → AreDrafts (gives lent) behind drafts → BegunSoFar gives lent now [] taken
begun_all gives lent coming now drafts behind taken so pushed are = begun_more gives lent coming now (There drafts) behind behind [] taken so pushed are.given are.entries (sym (append-nil behind))

pub all_begun : {L : Type 0} (gives : L → Draft → Type 0) (lent : L) (coming : List (Coming L)) (taken : List (Vec Entry)) → BegunSoFar gives lent coming [] taken → all_entries coming ≡ taken
all_begun gives lent coming taken so = sym (append-nil (all_entries coming)) ∙ so.entries

-- the drafts that are there are those of the first of all, and the others are still to be joined
pub record Joined {L : Type 0} (gives : L → Draft → Type 0) (lent : L) (all left : List (Coming L)) (drafts : List Draft) : Type 0 where
  pub coming : All (IsComing gives lent) left
  pub given : All (gives lent) drafts
  pub entries : map entries_read drafts ++ all_entries left ≡ all_entries all

pub joined_more : {L : Type 0} (gives : L → Draft → Type 0) (lent : L) (all left rest : List (Coming L)) (drafts now : List Draft) (coming : Coming L) (more : Vec Draft)
    → Joined gives lent all left drafts → left ≡ coming ∷ rest → now ≡ drafts ++ more.items
    → (IsComing gives lent coming → AreDrafts (gives lent) (coming_entries coming) more) → Joined gives lent all rest now
joined_more {L = L} gives lent all left rest drafts now coming more so first pushed given =
    let behind = subst (All (IsComing gives lent)) first so.coming in
    let of_it = given (behind 0 coming (omega arith)) in
    let left_of_all : map entries_read drafts ++ (coming_entries coming ++ all_entries rest) ≡ all_entries all =
    subst (λ (cs : List (Coming L)). map entries_read drafts ++ all_entries cs ≡ all_entries all) first so.entries in
    record {
      coming = λ k d lt. behind (suc k) d (omega (arith, lt));
      given = subst (All (gives lent)) (sym pushed) (All-append (gives lent) drafts more.items so.given of_it.given);
      entries =
          ap (λ (ds : List Draft). map entries_read ds ++ all_entries rest) pushed
          ∙ ap (λ (es : List (Vec Entry)). es ++ all_entries rest) (map-append entries_read drafts more.items)
          ∙ append_assoc (map entries_read drafts) (map entries_read more.items) (all_entries rest)
          ∙ ap (λ (es : List (Vec Entry)). map entries_read drafts ++ (es ++ all_entries rest)) of_it.entries
          ∙ left_of_all;
    }

pub joined_all : {L : Type 0} (gives : L → Draft → Type 0) (lent : L) (all left : List (Coming L)) (drafts : Vec Draft)
    → Joined gives lent all left drafts.items → length left ≡ 0 → AreDrafts (gives lent) (all_entries all) drafts
joined_all gives lent all [] drafts so none = record { given = so.given; entries = sym (append-nil (map entries_read drafts.items)) ∙ so.entries }
joined_all gives lent all (c ∷ cs) drafts so none = absurd (omega (arith, none))
