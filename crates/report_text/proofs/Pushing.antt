-- Pieces pushed one after the other.
use Rattle.std.proofs.Common.{◌≡◌, ℕ, ◌++◌, List, Result, Ok, Err, OnOk, ap, ◌∙◌, append_assoc}

pub pushed2 : {A E : Type 0} (r : Result A E) (old mid new a b : List ℕ) → mid ≡ old ++ a → OnOk r (new ≡ mid ++ b) → OnOk r (new ≡ old ++ (a ++ b))
pushed2 (Ok x) old mid new a b e h = h ∙ ap (λ l. l ++ b) e ∙ append_assoc old a b
pushed2 (Err x) old mid new a b e h = tt

pub pushed3 : {A E : Type 0} (r : Result A E) (old first second new a b c : List ℕ) → first ≡ old ++ a → second ≡ first ++ b → OnOk r (new ≡ second ++ c) → OnOk r (new ≡ old ++ (a ++ b ++ c))
pushed3 r old first second new a b c e f h = pushed2 r old second new (a ++ b) c (pushed2 {A = ℕ} {E = ℕ} (Ok 0) old first second a b e f) h
