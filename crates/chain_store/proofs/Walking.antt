-- The last place of a list that passes a test.
use Rattle.std.proofs.Common.{◌≡◌, ℕ, ◌+◌, ◌<◌, ◌≤◌, Bool, true, false, List, length, get_or, sym, ◌∙◌, ap, inl, inr, arith}
use Rattle.std.specs.List.Sorted.{IsStrictlyIncreasing}
use Rattle.std.proofs.lemmas.Bool.{cases_order, both_ways}
use Rattle.std.proofs.lemmas.List.Kept.{AllPairs-from_increasing}
use Rattle.chain_store.specs.Inner.Linked.{IsGreatest, NonePasses}
use Rattle.chain_store.proofs.Rising.{has_index, index_has}

-- no place from the index on passes the test
abbrev pub NoneFrom : (ℕ → Bool) → List ℕ → ℕ → Type 0
NoneFrom test xs i = (k : ℕ) → i ≤ k → k < length xs → test (get_or xs k 0) ≡ false

pub greatest : (test : ℕ → Bool) (xs : List ℕ) (i : ℕ) → IsStrictlyIncreasing xs → i < length xs → test (get_or xs i 0) ≡ true → NoneFrom test xs (i + 1) → IsGreatest test xs (get_or xs i 0)
greatest test xs i rise l passes none = record {
  there = index_has xs i l;
  passes = passes;
  last = λ other there passes_too.
      let k = has_index xs other there in
      elim (cases_order i k.0) [
        | inl same ↦ let e : get_or xs i 0 ≡ other = ap (λ j. get_or xs j 0) same ∙ k.2 in omega arith
        | inr apart ↦ elim apart [
          | inl after ↦ absurd (both_ways _ (none k.0 (omega (arith, after)) k.1) (ap test k.2 ∙ passes_too))
          | inr before ↦ omega (arith, AllPairs-from_increasing xs rise k.0 i 0 before l, k.2)
        ]
      ];
}

pub none_passes : (test : ℕ → Bool) (xs : List ℕ) → NoneFrom test xs 0 → NonePasses test xs
none_passes test xs none place there = let k = has_index xs place there in ap test (sym k.2) ∙ none k.0 (omega arith) k.1
