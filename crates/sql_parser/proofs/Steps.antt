-- Readings in steps, and lists of items that keep a fact.
use Rattle.std.proofs.Common.{◌≡◌, ℕ, zero, suc, List, [], ◌∷◌, ◌++◌, length, Option, Some, None, refl, subst, ◌∙◌}
use Rattle.std.proofs.lemmas.Bool.{and_from}
use Rattle.std.proofs.lemmas.List.Folds.{list_all-append}
use Rattle.std.specs.List.{list_all}
use Rattle.std.specs.Prelude.{Result, Ok, Err, Bool, true, false, if◌then◌else◌}
use Rattle.std.specs.Option.{option_map_or}
use Rattle.iso_lexer.specs.declared.sql_token.SqlSign.TheVariants as signs
use Rattle.sql_trees.specs.declared.fault.SqlFault.{SqlFault}
use Rattle.sql_trees.specs.Tokens.{Tokens}
use Rattle.sql_expressions.specs.Results.{◌>>=◌}
use Rattle.sql_expressions.specs.Readers.{after, is_sign, items_at, more_at}

-- what a reading in steps has met
pub bind_ok : {A B : Type 0} (r : Result A SqlFault) (f : A → Result B SqlFault) (y : B) → (r >>= f) ≡ Ok y → (x : A) × (r ≡ Ok x) × (f x ≡ Ok y)
bind_ok (Ok x) f y e = (x, refl, e)
bind_ok (Err g) f y e = absurd cc

pub ok_same : {A : Type 0} (x y : A) → (let r : Result A SqlFault = Ok x in r ≡ Ok y) → x ≡ y
ok_same x y e = cc

-- a reading that a test refuses
pub unless_ok : {A : Type 0} (b : Bool) (f : SqlFault) (r : Result A SqlFault) (y : A) → (if b then Err f else r) ≡ Ok y → (b ≡ false) × (r ≡ Ok y)
unless_ok true f r y e = absurd cc
unless_ok false f r y e = (refl, e)

pub when_ok : {A : Type 0} (b : Bool) (f : SqlFault) (r : Result A SqlFault) (y : A) → (if b then r else Err f) ≡ Ok y → (b ≡ true) × (r ≡ Ok y)
when_ok true f r y e = (refl, e)
when_ok false f r y e = absurd cc

-- what adding an item keeps, and passing a comma too, reading the items keeps
module _ {S : Type 0} (add : S → Tokens → Result (S × Tokens) SqlFault) (P : S → Tokens → Type 0)
    (keeps : (s : S) (ts : Tokens) (x : S × Tokens) → P s ts → add s ts ≡ Ok x → P x.0 x.1)
    (comma : (s : S) (ts us : Tokens) → P s ts → after (is_sign signs.Comma) ts ≡ Some us → P s us) where
  more_keep : (n : ℕ) (s : S) (ts : Tokens) (x : S × Tokens) → P s ts → more_at add n s ts ≡ Ok x → P x.0 x.1
  unfolding more_at
  more_keep zero s ts x p e = subst (λ (y : S × Tokens). P y.0 y.1) (ok_same (s, ts) x e) p
  more_keep (suc n) s ts x p e = of_comma (more_keep n) (after (is_sign signs.Comma) ts) refl e
    where
      of_comma : ((t : S) (us : Tokens) (y : S × Tokens) → P t us → more_at add n t us ≡ Ok y → P y.0 y.1) → (m : Option Tokens) → after (is_sign signs.Comma) ts ≡ m → option_map_or (λ us. add s us >>= λ y. more_at add n y.0 y.1) m (Ok (s, ts)) ≡ Ok x → P x.0 x.1
      of_comma go None h k = subst (λ (y : S × Tokens). P y.0 y.1) (ok_same (s, ts) x k) p
      of_comma go (Some us) h k =
          let a = bind_ok (add s us) (λ y. more_at add n y.0 y.1) x k in
          go a.0.0 a.0.1 x (keeps s us a.0 (comma s ts us p h) a.1) a.2

  pub items_keep : (s : S) (ts : Tokens) (x : S × Tokens) → P s ts → items_at add s ts ≡ Ok x → P x.0 x.1
  unfolding items_at
  items_keep s ts x p e =
      let a = bind_ok (add s ts) (λ y. more_at add (length ts) y.0 y.1) x e in
      more_keep (length ts) a.0.0 a.0.1 x (keeps s ts a.0 p a.1) a.2

-- the same for what says nothing of the tokens
pub items_hold : {S : Type 0} (add : S → Tokens → Result (S × Tokens) SqlFault) (P : S → Type 0) → ((s : S) (ts : Tokens) (x : S × Tokens) → P s → add s ts ≡ Ok x → P x.0) → (s : S) (ts : Tokens) (x : S × Tokens) → P s → items_at add s ts ≡ Ok x → P x.0
items_hold add P keeps s ts x p e = items_keep add (λ s us. P s) keeps (λ s us vs p h. p) s ts x p e

pub push_all : {X : Type 0} (p : X → Bool) (xs : List X) (x : X) → list_all p xs ≡ true → p x ≡ true → list_all p (xs ++ x ∷ []) ≡ true
push_all p xs x h k = list_all-append p xs (x ∷ []) ∙ and_from (list_all p xs) (list_all p (x ∷ [])) h (and_from (p x) true k refl)
