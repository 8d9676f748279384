-- What a closure answers at each call, from a fact about it that each call keeps.
use Rattle.std.proofs.Common.{List, [], ◌∷◌}
use Rattle.std.specs.Fn.{Called, ReturnsEach, AlwaysReturns}
use denote.Param.Members.{Mut}

module _ {F X R : Type 0} (g : Mut F X R) (P : X → R → Type 0) (I : F → Type 0) (step : (f : F) (a : X) (r : R) (f' : F) → Called g f a r f' → I f → P a r × I f') where
  each : (xs : List X) (f : F) → I f → ReturnsEach g P f xs
  each [] f i = tt
  each (a ∷ xs) f i = λ r f' c. ((step f a r f' c i).0, each xs f' (step f a r f' c i).1)

  pub returns_always : (f : F) → I f → AlwaysReturns g P f
  returns_always f i = record { at = λ xs. each xs f i }
