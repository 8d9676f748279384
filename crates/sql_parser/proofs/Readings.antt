-- What is read of statements is what the code reads, piece by piece.
use Rattle.std.proofs.Common.{◌≡◌, ℕ, zero, suc, Bool, true, false, [], ◌∷◌, length, Option, Some, None, refl, sym, ap, ◌∙◌}
use Rattle.std.specs.Prelude.{Result, Ok, Err, unwrap_or}
use Rattle.std.specs.Option.{option_map_or}
use Rattle.iso_lexer.specs.declared.token.At.{At}
use Rattle.iso_lexer.specs.declared.sql_token.SqlSign.TheVariants as signs
use Rattle.sql_trees.specs.declared.fault.SqlFault.{SqlFault}
use Rattle.sql_trees.specs.declared.word.Word.{Word}
use Rattle.sql_trees.specs.declared.word.Word.TheVariants as words
use Rattle.sql_trees.specs.declared.stmt.Level.{Level}
use Rattle.sql_trees.specs.declared.stmt.Level.TheVariants.{ReadCommitted}
use Rattle.sql_trees.specs.Statements.{StmtTree, Begin, SetTransaction, SetDeadlockTimeout}
use Rattle.sql_trees.specs.Tokens.{Token, Tokens}
use Rattle.sql_trees.specs.Tokens as tok
use Rattle.sql_expressions.specs.Results.{◌>>=◌}
use Rattle.sql_expressions.specs.Readers.{Reader, after, expect, is_sign, is_word, keyword, more_at, items_at}
use Rattle.sql_parser.specs.Grammar.{is_to, is_setting, is_scope}
use Rattle.sql_parser.specs.Readers.{one_of, known_of}
use Rattle.sql_parser.specs.Transactions.{level_at, begin_at, set_at}
use Rattle.sql_parser.specs.Inner.Transactions as inner
use Rattle.sql_parser.specs.Inner.Parts as parts

-- ---- words of reading

pub bind_on : {A B : Type 0} (r : Result A SqlFault) (f g : A → Result B SqlFault) → ((x : A) → f x ≡ g x) → (r >>= f) ≡ (r >>= g)
bind_on (Ok x) f g h = h x
bind_on (Err e) f g h = refl

pub bind_twice : {A B C : Type 0} (r : Result A SqlFault) (f : A → Result B SqlFault) (g : B → Result C SqlFault) → ((r >>= f) >>= g) ≡ (r >>= λ x. f x >>= g)
bind_twice (Ok x) f g = refl
bind_twice (Err e) f g = refl

pub option_on : {A B : Type 0} (o : Option A) (f g : A → B) (d e : B) → ((x : A) → f x ≡ g x) → d ≡ e → option_map_or f o d ≡ option_map_or g o e
option_on None f g d e h k = k
option_on (Some x) f g d e h k = h x

-- another value, read of the same tokens
abbrev pub turned : {X Y : Type 0} → (X → Y) → Result (X × Tokens) SqlFault → Result (Y × Tokens) SqlFault
turned f r = r >>= λ x. Ok (f x.0, x.1)

-- one of two words, and the only one
module _ {X : Type 0} (last : ℕ) (v w : Word) (x y : X) where
  abbrev first_or : Tokens → Result (X × Tokens) SqlFault
  first_or ts = option_map_or (λ us. Ok (x, us)) (after (is_word v) ts) (keyword last w ts >>= λ us. Ok (y, us))

  pub two_words : (ts : Tokens) → one_of last ((v, x) ∷ (w, y) ∷ []) ts ≡ first_or ts
  two_words [] = refl
  two_words (t ∷ ts) = by_tests (is_word v t.tok) refl (is_word w t.tok) refl
    where
      by_tests : (b : Bool) → is_word v t.tok ≡ b → (c : Bool) → is_word w t.tok ≡ c → one_of last ((v, x) ∷ (w, y) ∷ []) (t ∷ ts) ≡ first_or (t ∷ ts)
      by_tests true h c k = rw h refl
      by_tests false h true k = rw (h, k) refl
      by_tests false h false k = rw (h, k) refl

-- items whose states are one another's
module _ {S T : Type 0} (f : S → T) (add : S → Reader S) (inner_add : T → Reader T) (one : (s : S) (ts : Tokens) → inner_add (f s) ts ≡ turned f (add s ts)) where
  step : (s : S) (ts : Tokens) (next : S × Tokens → Result (S × Tokens) SqlFault) (inner_next : T × Tokens → Result (T × Tokens) SqlFault) → ((x : S × Tokens) → inner_next (f x.0, x.1) ≡ turned f (next x)) → (inner_add (f s) ts >>= inner_next) ≡ turned f (add s ts >>= next)
  step s ts next inner_next h =
      ap (λ (r : Result (T × Tokens) SqlFault). r >>= inner_next) (one s ts)
      ∙ (bind_twice (add s ts) (λ x. Ok (f x.0, x.1)) inner_next
      ∙ (bind_on (add s ts) (λ x. inner_next (f x.0, x.1)) (λ x. turned f (next x)) h
      ∙ sym (bind_twice (add s ts) next (λ y. Ok (f y.0, y.1)))))

  more_same : (n : ℕ) (s : S) (ts : Tokens) → more_at inner_add n (f s) ts ≡ turned f (more_at add n s ts)
  unfolding more_at
  more_same zero s ts = refl
  more_same (suc n) s ts = of_comma (after (is_sign signs.Comma) ts) (more_same n)
    where
      of_comma : (o : Option Tokens) → ((t : S) (us : Tokens) → more_at inner_add n (f t) us ≡ turned f (more_at add n t us)) → option_map_or (λ us. inner_add (f s) us >>= λ x. more_at inner_add n x.0 x.1) o (Ok (f s, ts)) ≡ turned f (option_map_or (λ us. add s us >>= λ x. more_at add n x.0 x.1) o (Ok (s, ts)))
      of_comma None go = refl
      of_comma (Some us) go = step s us (λ x. more_at add n x.0 x.1) (λ x. more_at inner_add n x.0 x.1) (λ x. go x.0 x.1)

  pub items_same : (s : S) (ts : Tokens) → items_at inner_add (f s) ts ≡ turned f (items_at add s ts)
  unfolding items_at
  items_same s ts = step s ts (λ x. more_at add (length ts) x.0 x.1) (λ x. more_at inner_add (length ts) x.0 x.1) (λ x. more_same (length ts) x.0 x.1)

pub pair_again : {S : Type 0} (r : Result (S × Tokens) SqlFault) → turned (λ x. x) r ≡ r
pair_again (Ok x) = refl
pair_again (Err e) = refl

pub items_alike : {S : Type 0} (add inner_add : S → Reader S) → ((s : S) (ts : Tokens) → inner_add s ts ≡ add s ts) → (s : S) (ts : Tokens) → items_at inner_add s ts ≡ items_at add s ts
items_alike add inner_add same s ts = items_same (λ t. t) add inner_add (λ t us. same t us ∙ sym (pair_again (add t us))) s ts ∙ pair_again (items_at add s ts)

-- ---- transactions

module _ (last : ℕ) where
  level_same : (ts : Tokens) → level_at last ts ≡ inner.level_at last ts
  unfolding level_at inner.level_at
  level_same ts =
      bind_on (keyword last words.Level ts) _ _ (λ us. option_on (after (is_word words.Read) us) _ _ _ _ (two_words last words.Committed words.Uncommitted ReadCommitted ReadCommitted) refl)

  pub begin_same : (ts : Tokens) → begin_at last ts ≡ inner.begin_at last ts
  unfolding begin_at inner.begin_at
  begin_same ts = of_isolation (after (is_word words.Isolation) ts)
    where
      of_level : (r : Result (Level × Tokens) SqlFault) → turned Begin (turned (λ l. Some l) r) ≡ turned (λ l. Begin (Some l)) r
      of_level (Ok x) = refl
      of_level (Err e) = refl

      of_isolation : (o : Option Tokens) → turned Begin (option_map_or (λ us. turned (λ l. Some l) (level_at last us)) o (Ok (None, ts))) ≡ option_map_or (λ us. turned (λ l. Begin (Some l)) (inner.level_at last us)) o (Ok (Begin None, ts))
      of_isolation None = refl
      of_isolation (Some us) = of_level (level_at last us) ∙ ap (turned (λ l. Begin (Some l))) (level_same us)

  pub start_same : (ts : Tokens) → (keyword last words.Transaction ts >>= begin_at last) ≡ inner.start_at last ts
  unfolding inner.start_at
  start_same ts = bind_on (keyword last words.Transaction ts) (begin_at last) (inner.begin_at last) begin_same

  -- a parameter and its value
  abbrev told : StmtTree → Tokens → Result (StmtTree × Tokens) SqlFault
  told s us = expect last is_to us >>= λ vs. expect last is_setting vs >>= λ ws. Ok (s, ws)

  abbrev parameter : Tokens → Result (StmtTree × Tokens) SqlFault
  parameter us = known_of last ((words.DeadlockTimeout, SetDeadlockTimeout) ∷ []) us >>= λ x. told x.0 x.1

  unknown : (t : At Token) (us : Tokens) (x : Token) → t.tok ≡ x → is_word words.DeadlockTimeout t.tok ≡ false → parameter (t ∷ us) ≡ Err (parts.misplaced_word last (t ∷ us))
  unknown t us (tok.word w s) h k = rw (k, h) refl
  unknown t us (tok.quoted s) h k = rw (k, h) refl
  unknown t us (tok.string s) h k = rw (k, h) refl
  unknown t us (tok.number n) h k = rw (k, h) refl
  unknown t us (tok.sign s) h k = rw (k, h) refl

  parameter_same : (ts : Tokens) → parameter ts ≡ inner.parameter_at last ts
  unfolding inner.parameter_at
  parameter_same [] = refl
  parameter_same (t ∷ us) = by_test (is_word words.DeadlockTimeout t.tok) refl
    where
      by_test : (b : Bool) → is_word words.DeadlockTimeout t.tok ≡ b → parameter (t ∷ us) ≡ inner.parameter_at last (t ∷ us)
      by_test true h = rw h refl
      by_test false h = unknown t us t.tok refl h ∙ rw h refl

  pub set_same : (ts : Tokens) → set_at last ts ≡ inner.set_at last ts
  unfolding set_at inner.set_at
  set_same ts = option_on (after (is_word words.Transaction) ts) _ _ _ _ (λ us. bind_on (keyword last words.Isolation us) _ _ (λ vs. ap (turned SetTransaction) (level_same vs))) (of_scope (after is_scope ts))
    where
      of_scope : (o : Option Tokens) → option_map_or parameter o (parameter ts) ≡ inner.parameter_at last (unwrap_or o ts)
      of_scope None = parameter_same ts
      of_scope (Some us) = parameter_same us
