-- What a reading that succeeds has met.
use Rattle.std.proofs.Common.{◌≡◌, ℕ, ◌+◌, ◌<◌, Bool, true, false, [], ◌∷◌, Option, Some, None, refl, ◌∙◌, rules}
use Rattle.std.specs.Prelude.{Result, Ok, Err, ok_or, nat_lt, if◌then◌else◌}
use Rattle.iso_lexer.specs.declared.limits.TheConstants.{MAX_DEPTH}
use Rattle.sql_trees.specs.declared.fault.SqlFault.{SqlFault}
use Rattle.sql_trees.specs.declared.fault.SqlFault.TheVariants.{TooDeep}
use Rattle.iso_lexer.specs.declared.token.At.{At}
use Rattle.sql_trees.specs.declared.word.Word.TheVariants as words
use Rattle.iso_lexer.specs.declared.sql_token.SqlSign.TheVariants as signs
use Rattle.sql_trees.specs.Tokens.{Token, Tokens}
use Rattle.sql_trees.specs.Tokens as tok
use Rattle.sql_trees.specs.declared.expr.Operator.{Operator}
use Rattle.sql_expressions.specs.Grammar.{IsWord}
use Rattle.sql_expressions.specs.Results.{◌>>=◌}
use Rattle.sql_expressions.specs.Readers.{expect, misplaced, is_sign, after}
use Rattle.sql_expressions.specs.Inner.Pieces.{Found_op, deeper, next_op, found_op, is_and, is_not, is_is}

pub bind_ok : {A B : Type 0} (r : Result A SqlFault) (f : A → Result B SqlFault) (y : B) → (r >>= f) ≡ Ok y → (x : A) × (r ≡ Ok x) × (f x ≡ Ok y)
bind_ok (Ok x) f y e = (x, refl, e)
bind_ok (Err g) f y e = absurd cc

pub deeper_ok : (p d e : ℕ) → deeper p d ≡ Ok e → (d < MAX_DEPTH) × (e ≡ d + 1)
deeper_ok p d e h = of_test (nat_lt d MAX_DEPTH) refl h
  where
    of_test : (b : Bool) → nat_lt d MAX_DEPTH ≡ b → (let r : Result ℕ SqlFault = if b then Ok (d + 1) else Err (TooDeep p) in r ≡ Ok e) → (d < MAX_DEPTH) × (e ≡ d + 1)
    of_test true t g = (search rules, cc)
    of_test false t g = absurd cc

pub expect_ok : (last : ℕ) (is_it : Token → Bool) (ts rest : Tokens) → expect last is_it ts ≡ Ok rest → (t : At Token) × (ts ≡ t ∷ rest) × (is_it t.tok ≡ true)
expect_ok last is_it [] rest e = absurd cc
expect_ok last is_it (t ∷ ts) rest e = of_test (is_it t.tok) refl e
  where
    of_test : (b : Bool) → is_it t.tok ≡ b → (let r : Result Tokens SqlFault = ok_or (if b then Some ts else None) (misplaced last (t ∷ ts)) in r ≡ Ok rest) → (u : At Token) × (t ∷ ts ≡ u ∷ rest) × (is_it u.tok ≡ true)
    of_test true h g = (t, cc, h)
    of_test false h g = absurd cc

pub next_op_ok : (op_of : Token → Option Operator) (ts : Tokens) (o : Found_op) → next_op op_of ts ≡ Some o → (t : At Token) × (ts ≡ t ∷ o.rest) × (op_of t.tok ≡ Some o.op)
next_op_ok op_of [] o e = absurd cc
next_op_ok op_of (t ∷ ts) o e = of_op (op_of t.tok) refl e
  where
    of_op : (m : Option Operator) → op_of t.tok ≡ m → found_op t ts m ≡ Some o → (u : At Token) × (t ∷ ts ≡ u ∷ o.rest) × (op_of u.tok ≡ Some o.op)
    of_op None h g = absurd cc
    of_op (Some p) h g = (t, cc, h ∙ cc)

pub is_close_true : (x : Token) → is_sign signs.Close x ≡ true → x ≡ tok.sign signs.Close
is_close_true (tok.sign signs.Close) e = refl
is_close_true _ e = absurd cc

pub is_open_true : (x : Token) → is_sign signs.Open x ≡ true → x ≡ tok.sign signs.Open
is_open_true (tok.sign signs.Open) e = refl
is_open_true _ e = absurd cc

pub is_comma_true : (x : Token) → is_sign signs.Comma x ≡ true → x ≡ tok.sign signs.Comma
is_comma_true (tok.sign signs.Comma) e = refl
is_comma_true _ e = absurd cc

pub is_and_true : (x : Token) → is_and x ≡ true → IsWord words.And x
is_and_true (tok.word words.And s) e = (s, refl)
is_and_true _ e = absurd cc

pub is_not_true : (x : Token) → is_not x ≡ true → IsWord words.Not x
is_not_true (tok.word words.Not s) e = (s, refl)
is_not_true _ e = absurd cc

pub is_is_true : (x : Token) → is_is x ≡ true → IsWord words.Is x
is_is_true (tok.word words.Is s) e = (s, refl)
is_is_true _ e = absurd cc

pub after_comma_ok : (ts us : Tokens) → after (is_sign signs.Comma) ts ≡ Some us → (t : At Token) × (ts ≡ t ∷ us) × (t.tok ≡ tok.sign signs.Comma)
after_comma_ok [] us e = absurd cc
after_comma_ok (t ∷ ts) us e = of_test (is_sign signs.Comma t.tok) refl e
  where
    of_test : (b : Bool) → is_sign signs.Comma t.tok ≡ b → (if b then Some ts else None) ≡ Some us → (u : At Token) × (t ∷ ts ≡ u ∷ us) × (u.tok ≡ tok.sign signs.Comma)
    of_test true h g = (t, cc, is_comma_true t.tok h)
    of_test false h g = absurd cc
