-- The drafts of permutations that were taken together.
use Rattle.std.proofs.Common.{◌≡◌, ◌≢◌, ℕ, ◌<◌, ◌≤◌, Bool, true, false, ◌+◌, List, [], ◌∷◌, ◌++◌, length, map, suc, refl, sym, ap, subst, ◌∙◌, arith}
use Rattle.std.proofs.lemmas.List.{length-map}
use Rattle.std.specs.Prelude.{Option, Some, None, IfSome, IfNone, IsSome, ◌↔◌}
use Rattle.std.specs.Option.{option_to_list}
use Rattle.std.specs.List.{All}
use Rattle.std.specs.Bool.{OnFalse}
use Rattle.std.specs.Global.{Vec}
use Rattle.spec_parser.specs.declared.tree.Entry.{Entry}
use Rattle.spec_parser.specs.Trees.{EntryTree}
use Rattle.spec_files.specs.declared.draft.Draft.{Draft}
use Rattle.spec_files.specs.Drafts.{entries_of, entries_read}
use Rattle.spec_files.specs.Inner.Drafts.{lists_of, to_come}

pub same_lists : (drafts : List Draft) → map entries_of drafts ≡ lists_of (map entries_read drafts)
same_lists [] = refl
same_lists (d ∷ ds) = ap (λ (rest : List (List EntryTree)). entries_of d ∷ rest) (same_lists ds)

-- no more drafts than were taken, and no more taken than may run
pub few_drafts : (drafts : List Draft) (taken : List (Vec Entry)) (most left : ℕ) → map entries_read drafts ≡ taken → length taken ≤ most → most ≤ left → length drafts ≤ left
few_drafts drafts taken most left same few within =
    let long : length (map entries_read drafts) ≡ length taken = ap length same in
    omega (arith, length-map drafts entries_read, long, few, within)

-- no draft is left, and these run next
pub filled : (old drafts : List Draft) (before behind : List (List EntryTree)) (taken : List (Vec Entry)) → length old ≡ 0 → before ≡ lists_of taken ++ behind
    → map entries_read drafts ≡ taken → to_come old before ≡ to_come drafts behind
filled (d ∷ ds) drafts before behind taken none next same = absurd (omega (arith, none))
filled [] drafts before behind taken none next same = next ∙ ap (λ (lists : List (List EntryTree)). lists ++ behind) (sym (same_lists drafts ∙ ap lists_of same))

-- the first draft is that of the first permutation that is to come
pub first_comes : (drafts rest : List Draft) (behind : List (List EntryTree)) (next : Option Draft) → drafts ≡ option_to_list next ++ rest
    → IfSome next (λ draft. to_come drafts behind ≡ entries_of draft ∷ to_come rest behind)
first_comes drafts rest behind None is = tt
first_comes drafts rest behind (Some draft) is = ap (λ (ds : List Draft). to_come ds behind) is

pub none_comes : (drafts rest : List Draft) (behind : List (List EntryTree)) (next : Option Draft) → drafts ≡ option_to_list next ++ rest
    → length rest + length (option_to_list next) ≡ length drafts → IsSome next ↔ (0 < length drafts) → (drafts ≡ [] → behind ≡ []) → IfNone next (to_come drafts behind ≡ [])
none_comes [] rest behind None is long some over = over refl
none_comes (d ∷ ds) rest behind None is long some over = absurd (let it : false ≡ true = some.1 (omega arith) in cc)
none_comes drafts rest behind (Some draft) is long some over = tt

-- a draft is left, or a permutation behind them
pub draft_left : (drafts : List Draft) (behind : List (List EntryTree)) → 0 < length drafts → to_come drafts behind ≢ []
draft_left [] behind some = absurd (omega (arith, some))
draft_left (d ∷ ds) behind some = λ same. cc

pub on_false : (b : Bool) (P : Type 0) → P → OnFalse b P
on_false true P p = tt
on_false false P p = p

-- what is so of all drafts is so of those behind the next
pub all_behind : (P : Draft → Type 0) (drafts rest : List Draft) (next : Option Draft) → drafts ≡ option_to_list next ++ rest → All P drafts → All P rest
all_behind P drafts rest None is all = subst (All P) is all
all_behind P drafts rest (Some d) is all = let more = subst (All P) is all in λ k e lt. more (suc k) e (omega (arith, lt))
