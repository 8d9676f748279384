-- What is said of a column, one constraint after the other.
use Rattle.std.proofs.Common.{◌≡◌, ℕ, zero, suc, ◌<◌, ◌≤◌, List, [], ◌∷◌, length, refl, sym, ◌∙◌, arith}
use Rattle.std.specs.Prelude.{Result, Ok, Err, true, false, if◌then◌else◌}
use Rattle.sql_trees.specs.declared.fault.SqlFault.{SqlFault}
use Rattle.sql_trees.specs.declared.word.Word.TheVariants as words
use Rattle.sql_trees.specs.Tokens.{Token, Tokens}
use Rattle.sql_trees.specs.Tokens as tok
use Rattle.sql_expressions.specs.Results.{◌>>=◌}
use Rattle.sql_expressions.specs.Readers.{keyword}
use Rattle.sql_trees.specs.declared.kind.Kind.{Kind}
use Rattle.sql_parser.specs.Tables.{Placed, KeyRead}
use Rattle.sql_parser.specs.Grammar.{Constraints, key_limit}
use Rattle.sql_parser.specs.Inner.Tables.{constraints_at, kind_at, limits_at}
use Rattle.sql_parser.specs.Inner.OneConstraint.{constraint_at, constrained}

-- the constraints so far, and enough turns for the tokens that are left, give what the whole gives
pub record Going (last : ℕ) (c : Placed) (s : Constraints) (ts : Tokens) (whole : Result (Constraints × Tokens) SqlFault) : Type 0 where
  pub turns : ℕ
  pub enough : length ts ≤ turns
  pub same : constraints_at last c turns s ts ≡ whole

-- one constraint, and those behind it
module _ (last : ℕ) (c : Placed) (n : ℕ) where
  abbrev said : Constraints → Tokens → Result (Constraints × Tokens) SqlFault
  said v us = Ok (v, us)

  behind_word : (v : Constraints) (r : Result Tokens SqlFault) → (r >>= constraints_at last c n v) ≡ ((r >>= said v) >>= λ x. constraints_at last c n x.0 x.1)
  behind_word v (Ok us) = refl
  behind_word v (Err f) = refl

  pub turn_is : (s : Constraints) (ts : Tokens) → constraints_at last c (suc n) s ts ≡ (if constrained ts then (constraint_at last c s ts >>= λ x. constraints_at last c n x.0 x.1) else Ok (s, ts))
  unfolding constraints_at
  turn_is s [] = refl
  turn_is s (t ∷ ts) = of_token t.tok refl
    where
      of_token : (x : Token) → t.tok ≡ x → constraints_at last c (suc n) s (t ∷ ts) ≡ (if constrained (t ∷ ts) then (constraint_at last c s (t ∷ ts) >>= λ x. constraints_at last c n x.0 x.1) else Ok (s, t ∷ ts))
      of_token (tok.word words.Not w) h = rw h (behind_word (record { not_null = true; keys = s.keys }) (keyword last words.Null ts))
      of_token (tok.word words.Primary w) h = rw h (behind_word (key_limit true c s) (keyword last words.Key ts))
      of_token (tok.word words.Unique w) h = rw h refl
      of_token _ h = rw h refl

none_left : (ts : Tokens) → length ts ≤ 0 → constrained ts ≡ true → ⊥
none_left [] h e = cc
none_left (t ∷ ts) h e = omega arith

module _ (last : ℕ) (c : Placed) where
  pub going_from : (s : Constraints) (ts : Tokens) → Going last c s ts (constraints_at last c (length ts) s ts)
  going_from s ts = record { turns = length ts; enough = omega arith; same = refl }

  pub going_ends : (s : Constraints) (ts : Tokens) (w : Result (Constraints × Tokens) SqlFault) → Going last c s ts w → constrained ts ≡ false → w ≡ Ok (s, ts)
  unfolding constraints_at
  going_ends s ts w g e = go g.turns g.same
    where
      go : (n : ℕ) → constraints_at last c n s ts ≡ w → w ≡ Ok (s, ts)
      go zero h = sym h
      go (suc n) h = sym h ∙ turn_is last c n s ts ∙ rw e refl

  pub going_stops : (s : Constraints) (ts : Tokens) (w : Result (Constraints × Tokens) SqlFault) (f : SqlFault) → Going last c s ts w → constrained ts ≡ true → constraint_at last c s ts ≡ Err f → w ≡ Err f
  unfolding constraints_at
  going_stops s ts w f g e k = go g.turns g.enough g.same
    where
      go : (n : ℕ) → length ts ≤ n → constraints_at last c n s ts ≡ w → w ≡ Err f
      go zero m h = absurd (none_left ts m e)
      go (suc n) m h = sym h ∙ turn_is last c n s ts ∙ rw (e, k) refl

  pub going_on : (s : Constraints) (ts : Tokens) (w : Result (Constraints × Tokens) SqlFault) (x : Constraints × Tokens) → Going last c s ts w → constrained ts ≡ true → constraint_at last c s ts ≡ Ok x → length x.1 < length ts → Going last c x.0 x.1 w
  unfolding constraints_at
  going_on s ts w x g e k shorter = go g.turns g.enough g.same
    where
      go : (n : ℕ) → length ts ≤ n → constraints_at last c n s ts ≡ w → Going last c x.0 x.1 w
      go zero m h = absurd (none_left ts m e)
      go (suc n) m h =
          let on : constraints_at last c (suc n) s ts ≡ constraints_at last c n x.0 x.1 = turn_is last c n s ts ∙ rw (e, k) refl in
          record { turns = n; enough = omega arith; same = sym on ∙ h }

-- a kind and what is said of the column behind it
module _ (last : ℕ) (c : Placed) (keys : List KeyRead) (ts : Tokens) (k : Kind × Tokens) (e : kind_at last ts ≡ Ok k) where
  pub limits_done : (x : Constraints × Tokens) → constraints_at last c (length k.1) (record { not_null = false; keys = keys }) k.1 ≡ Ok x → limits_at last c keys ts ≡ Ok ((k.0, x.0), x.1)
  unfolding limits_at
  limits_done x h = rw (e, h) refl

  pub limits_stop : (f : SqlFault) → constraints_at last c (length k.1) (record { not_null = false; keys = keys }) k.1 ≡ Err f → limits_at last c keys ts ≡ Err f
  unfolding limits_at
  limits_stop f h = rw (e, h) refl
