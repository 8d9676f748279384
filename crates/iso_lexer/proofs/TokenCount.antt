-- Each token takes a byte of its text at least.
use Rattle.std.proofs.Common.{◌≡◌, ℕ, ◌<◌, ◌≤◌, Bool, true, false, List, [], ◌∷◌, length, Result, Ok, Err, refl, sym, ◌∙◌, arith, length-append}
use Rattle.std.specs.Prelude.{MatchBool, nat_lt}
use Rattle.std.proofs.lemmas.Bool.{ltb-false}
use Rattle.iso_lexer.specs.declared.limits.TheConstants.{LONGEST_FILE}
use Rattle.iso_lexer.specs.declared.token.At.{At}
use Rattle.iso_lexer.specs.declared.fault.Fault.{Fault}
use Rattle.iso_lexer.specs.SpecTokens.{SpecToken}
use Rattle.iso_lexer.specs.Lexing.{Front, Reads, ends, takes, fails, gap, token}
use Rattle.iso_lexer.specs.Inner.Rules.{in_front}
use Rattle.iso_lexer.specs.Lexing.{passes as skips}
use Rattle.iso_lexer.specs.SpecText.{Lexes, spec_front}
use Rattle.iso_lexer.specs.Inner.Rules.{Rules}
use Rattle.iso_lexer.proofs.Lexing.{shorter_at}
use Rattle.iso_lexer.proofs.SpecRules.{spec_rules}

abbrev Few : {T : Type 0} → ℕ → Result (List (At T)) Fault → Type 0
Few n (Ok ts) = length ts ≤ n
Few n (Err f) = Unit {0}

fewer : {T : Type 0} (m n : ℕ) (answer : Result (List (At T)) Fault) → m < n → Few m answer → Few n answer
fewer m n (Ok ts) lt h = omega (arith, lt, h)
fewer m n (Err f) lt h = tt

one_more : {T : Type 0} (m n : ℕ) (t : At T) (answer : Result (List (At T)) Fault) → m < n → Few m answer → Few n (in_front (t ∷ []) answer)
one_more m n t (Ok ts) lt h = omega (arith, lt, h, length-append (t ∷ []) ts)
one_more m n t (Err f) lt h = tt

nothing_first : {T : Type 0} (t : T) (rest : List ℕ) → gap [] ≡ token t rest → ⊥
nothing_first t rest e = cc

nonempty : {T : Type 0} (front : List ℕ → Front T) (text : List ℕ) (t : T) (rest : List ℕ) → front [] ≡ gap [] → front text ≡ token t rest → 0 < length text
nonempty front [] t rest nothing e = absurd (nothing_first t rest (sym nothing ∙ e))
nonempty front (b ∷ bs) t rest nothing e = omega arith

few_read : {T : Type 0} (front : List ℕ → Front T) → Rules front → (total : ℕ) (text : List ℕ) (answer : Result (List (At T)) Fault) → Reads front total text answer → Few (length text) answer
few_read front rules total text answer ends = omega arith
few_read front rules total text answer (skips rest lt e h) = fewer (length rest) (length text) answer (shorter_at front rules text (gap rest) lt (sym e)) (few_read front rules total rest answer h)
few_read front rules total text answer (takes t rest {more = more} e h is) = rw is (one_more (length rest) (length text) _ more (shorter_at front rules text (token t rest) (nonempty front text t rest rules.nothing e) (sym e)) (few_read front rules total rest more h))
few_read front rules total text answer (fails kind n e is) = rw is tt

no_fault : (ts : List (At SpecToken)) (f : Fault) → ◌≡◌ {A = Result (List (At SpecToken)) Fault} (Ok ts) (Err f) → ⊥
no_fault ts f e = cc

few_of : (b : Bool) (text : List ℕ) (ts : List (At SpecToken)) (f : Fault) → nat_lt LONGEST_FILE (length text) ≡ b → MatchBool b (◌≡◌ {A = Result (List (At SpecToken)) Fault} (Ok ts) (Err f)) (Reads spec_front (length text) text (Ok ts)) → (length text ≤ LONGEST_FILE) × (length ts ≤ length text)
few_of true text ts f e h = absurd (no_fault ts f h)
few_of false text ts f e h = (ltb-false LONGEST_FILE (length text) e, few_read spec_front spec_rules (length text) text (Ok ts) h)

pub few_tokens : (text : List ℕ) (ts : List (At SpecToken)) → Lexes text (Ok ts) → (length text ≤ LONGEST_FILE) × (length ts ≤ length text)
few_tokens text ts h = few_of (nat_lt LONGEST_FILE (length text)) text ts _ refl h
