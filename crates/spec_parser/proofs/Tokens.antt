-- What one token is, and what stands before the place behind it.
use Rattle.std.proofs.Common.{◌≡◌, ◌≤◌, arith, Bool, true, false, cond, List, [], ◌∷◌, Option, Some, None, refl, ap, ◌∙◌}
use denote.Enum.Bare.{sameb, same_true}
use Rattle.iso_lexer.specs.declared.token.At.{At}
use Rattle.iso_lexer.specs.declared.token.Span.{Span}
use Rattle.iso_lexer.specs.declared.spec_token.Keyword.{Keyword}
use Rattle.iso_lexer.specs.declared.spec_token.Keyword.TheVariants.{Permutation, Session, Setup, Step, Teardown, Notices}
use Rattle.iso_lexer.specs.contracts.spec_token.Keyword.{the_type as words}
use Rattle.iso_lexer.specs.declared.spec_token.Sign.{Sign}
use Rattle.iso_lexer.specs.contracts.spec_token.Sign.{the_type as signs}
use Rattle.iso_lexer.specs.Names.{Written}
use Rattle.iso_lexer.specs.SpecTokens.{SpecToken, keyword, name, digits, sign, block}
use Rattle.spec_parser.specs.Trees.{NameAt}
use Rattle.spec_parser.specs.Counts.{Counts, past, past_token}
use Rattle.spec_parser.specs.Grammar.{a_name, is_keyword, is_mark, one, a_word, a_sign}

pub test_true : (b : Bool) (u : Unit {0}) → ◌≡◌ {A = Option (Unit {0})} (cond b (Some tt) None) (Some u) → b ≡ true
test_true true u e = refl
test_true false u e = absurd cc

same_is : (j k : Keyword) → sameb words j k ≡ true → j ≡ k
same_is j k e = same_true words tt j k e

same_sign_is : (g h : Sign) → sameb signs g h ≡ true → g ≡ h
same_sign_is g h e = same_true signs tt g h e

pub keyword_in : (k : Keyword) (t : SpecToken) → is_keyword k t ≡ true → t ≡ keyword k
keyword_in k (keyword j) e = ap keyword (same_is j k e)
keyword_in k (name n) e = absurd cc
keyword_in k (digits d) e = absurd cc
keyword_in k (sign s) e = absurd cc
keyword_in k (block n b) e = absurd cc

pub sign_in : (g : Sign) (t : SpecToken) → is_mark g t ≡ true → t ≡ sign g
sign_in g (sign h) e = ap sign (same_sign_is h g e)
sign_in g (keyword j) e = absurd cc
sign_in g (name n) e = absurd cc
sign_in g (digits d) e = absurd cc
sign_in g (block n b) e = absurd cc

named_of : (c : Counts) (tok : SpecToken) (span : Span) (n : NameAt) → a_name c (record { tok = tok; span = span }) ≡ Some n → (m : Written) × (tok ≡ name m)
named_of c (name m) span n e = (m, refl)
named_of c (keyword k) span n e = absurd cc
named_of c (digits d) span n e = absurd cc
named_of c (sign s) span n e = absurd cc
named_of c (block k b) span n e = absurd cc

pub named_in : (c : Counts) (t : At SpecToken) (n : NameAt) → a_name c t ≡ Some n → (m : Written) × (t.tok ≡ name m)
named_in c t n e = named_of c t.tok t.span n e

-- ---- what stands before

pub past_one : (c : Counts) (ts : List (At SpecToken)) (t : At SpecToken) (u : SpecToken) → ts ≡ t ∷ [] → t.tok ≡ u → past c ts ≡ past_token u c
past_one c ts t u e is = ap (past c) e ∙ ap (λ w. past_token w c) is

pub word_past : (k : Keyword) (c : Counts) (ts : List (At SpecToken)) (u : Unit {0}) → one (a_word k) c ts u → past c ts ≡ past_token (keyword k) c
word_past k c ts u (t, e, is) = past_one c ts t (keyword k) e (keyword_in k t.tok (test_true (is_keyword k t.tok) u is))

pub sign_past : (g : Sign) (c : Counts) (ts : List (At SpecToken)) (u : Unit {0}) → one (a_sign g) c ts u → past c ts ≡ c
sign_past g c ts u (t, e, is) = past_one c ts t (sign g) e (sign_in g t.tok (test_true (is_mark g t.tok) u is))

pub name_past : (c : Counts) (ts : List (At SpecToken)) (n : NameAt) → one a_name c ts n → past c ts ≡ c
name_past c ts n (t, e, is) = let m = named_in c t n is in past_one c ts t (name m.0) e m.1

-- no count falls
abbrev pub NoLess : Counts → Counts → Type 0
NoLess c d = (c.sessions ≤ d.sessions) × (c.steps ≤ d.steps)

token_grows : (t : SpecToken) (c : Counts) → NoLess c (past_token t c)
token_grows (keyword Session) c = (omega arith, omega arith)
token_grows (keyword Step) c = (omega arith, omega arith)
token_grows (keyword Permutation) c = (omega arith, omega arith)
token_grows (keyword Setup) c = (omega arith, omega arith)
token_grows (keyword Teardown) c = (omega arith, omega arith)
token_grows (keyword Notices) c = (omega arith, omega arith)
token_grows (name n) c = (omega arith, omega arith)
token_grows (digits d) c = (omega arith, omega arith)
token_grows (sign g) c = (omega arith, omega arith)
token_grows (block n b) c = (omega arith, omega arith)

pub grows : (c : Counts) (ts : List (At SpecToken)) → NoLess c (past c ts)
grows c [] = (omega arith, omega arith)
grows c (t ∷ ts) =
    let one = token_grows t.tok c in
    let others = grows (past_token t.tok c) ts in
    (omega (arith, one.0, others.0), omega (arith, one.1, others.1))
