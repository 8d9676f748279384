-- Permutations so far, and what came of them.
use Rattle.std.proofs.Common.{◌≡◌, ◌+◌, ◌<◌, ◌^◌, ◌∷◌, ◌++◌, ◌∙◌, ℕ, List, [], length, refl, sym, ap, subst, append_assoc, length-append, arith}
use Rattle.session_machine.specs.Machine.{Blocks}
use Rattle.spec_parser.specs.Trees.{EntryTree, SpecTree}
use Rattle.outcome_counts.specs.Counts.{Fate, Counts, IsCounted, HasRoom}
use Rattle.outcome_counts.specs.Code.Adding.{IsOneMore}
use Rattle.outcome_counts.proofs.Counting.{has_room, none_counted, stays_counted}
use Rattle.outcomes.specs.Counting.{AllComeTo, ComesTo}

-- of all permutations so many were counted, and these are left
pub record SoFar (spec : SpecTree) (blocks : Blocks) (names : List (List ℕ)) (all left : List (List EntryTree)) (number : ℕ) (c : Counts) : Type 0 where
  pub done : List (List EntryTree)
  pub fates : List Fate
  pub split : all ≡ done ++ left
  pub each : AllComeTo spec blocks names done fates
  pub counted : IsCounted fates c
  pub many : number ≡ length done

pub as_many : (spec : SpecTree) (blocks : Blocks) (names : List (List ℕ)) (done : List (List EntryTree)) (fates : List Fate) → AllComeTo spec blocks names done fates → length fates ≡ length done
as_many spec blocks names [] [] all = refl
as_many spec blocks names (p ∷ ps) (f ∷ fs) all = let less = as_many spec blocks names ps fs all.1 in grind (arith, less)
as_many spec blocks names [] (f ∷ fs) all = absurd all
as_many spec blocks names (p ∷ ps) [] all = absurd all

pub one_more : (spec : SpecTree) (blocks : Blocks) (names : List (List ℕ)) (done : List (List EntryTree)) (fates : List Fate) (entries : List EntryTree) (fate : Fate) → AllComeTo spec blocks names done fates
    → ComesTo spec blocks names entries fate → AllComeTo spec blocks names (done ++ entries ∷ []) (fates ++ fate ∷ [])
one_more spec blocks names [] [] entries fate all comes = (comes, tt)
one_more spec blocks names (p ∷ ps) (f ∷ fs) entries fate all comes = (all.0, one_more spec blocks names ps fs entries fate all.1 comes)
one_more spec blocks names [] (f ∷ fs) entries fate all comes = absurd all
one_more spec blocks names (p ∷ ps) [] entries fate all comes = absurd all

-- none is counted yet
pub at_first : (spec : SpecTree) (blocks : Blocks) (names : List (List ℕ)) (all left : List (List EntryTree)) → left ≡ all → SoFar spec blocks names all left 0 (record { blocked = 0; waiting = 0; outcomes = []; counts = [] })
at_first spec blocks names all left is = record { done = []; fates = []; split = sym is; each = tt; counted = none_counted; many = refl }

-- one more is counted
pub next_one : (spec : SpecTree) (blocks : Blocks) (names : List (List ℕ)) (all left more : List (List EntryTree)) (number : ℕ) (before after : Counts) (here entries : List EntryTree) (fate : Fate)
    → SoFar spec blocks names all left number before → left ≡ here ∷ more → entries ≡ here → ComesTo spec blocks names entries fate → IsOneMore before after fate → SoFar spec blocks names all more (number + 1) after
next_one spec blocks names all left more number before after here entries fate so is own comes added = record {
  done = so.done ++ here ∷ [];
  fates = so.fates ++ fate ∷ [];
  split = so.split ∙ ap (λ (x : List (List EntryTree)). so.done ++ x) is ∙ sym (append_assoc so.done (here ∷ []) more);
  each = one_more spec blocks names so.done so.fates here fate so.each (subst (λ (x : List EntryTree). ComesTo spec blocks names x fate) own comes);
  counted = stays_counted so.fates before after fate so.counted added;
  many = let longer = length-append so.done (here ∷ []) in ap (λ (n : ℕ). n + 1) so.many ∙ sym longer;
}

-- and there is room for it
pub room_so_far : (spec : SpecTree) (blocks : Blocks) (names : List (List ℕ)) (all left : List (List EntryTree)) (number : ℕ) (c : Counts) → SoFar spec blocks names all left number c → number + 1 < 2 ^ 64 → HasRoom c
room_so_far spec blocks names all left number c so few = has_room so.fates c so.counted (omega (arith, so.many, as_many spec blocks names so.done so.fates so.each))
