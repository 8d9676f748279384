-- What the tokens spell is read: ON CONFLICT and RETURNING, and the names given to items.
use Rattle.std.proofs.Common.{◌≡◌, ℕ, Bool, true, false, List, [], ◌∷◌, ◌++◌, Option, Some, None, refl, sym, ap, ◌∙◌, append_assoc, append-nil}
use Rattle.std.specs.Prelude.{Result, Ok, Err, if◌then◌else◌}
use Rattle.iso_lexer.specs.declared.token.At.{At}
use Rattle.iso_lexer.specs.declared.sql_token.SqlSign.TheVariants as signs
use Rattle.sql_trees.specs.declared.fault.SqlFault.{SqlFault}
use Rattle.sql_trees.specs.declared.word.Word.{Word}
use Rattle.sql_trees.specs.declared.word.Word.TheVariants as words
use Rattle.sql_trees.specs.Words.{is_reserved}
use Rattle.sql_trees.specs.Statements.{ItemTree}
use Rattle.sql_trees.specs.Tokens.{Token, Tokens, named}
use Rattle.sql_trees.specs.Tokens as tok
use Rattle.sql_trees.specs.Trees.{Tree}
use Rattle.sql_expressions.specs.Readers.{misplaced, is_word, is_sign, after, items_at, added}
use Rattle.sql_expressions.specs.Reading.{Part, expr_at}
use Rattle.sql_expressions.specs.Inner.Pieces.{chain, or_at, and_at, is_at, cmp_at, inn_at, cat_at, add_at, mul_at}
use Rattle.sql_expressions.specs.Grammar.{Ends, may_go_on}
use Rattle.sql_expressions.proofs.Complete.{expr_complete}
use Rattle.sql_expressions.proofs.Same.{is_fault, expr_same}
use Rattle.sql_parser.specs.Changes.{alias_at, conflict_at, returned_at}
use Rattle.sql_parser.specs.Inner.Changes.{returning_at}
use Rattle.sql_parser.specs.Inner.Queries.{maybe_name}
use Rattle.sql_parser.specs.Grammar.{AliasIs, no_alias, as_alias, bare_alias, ConflictIs, fails, does_nothing, AddsReturned, returns_all, returns_value, ReturningIs, returns_nothing, returns, Shallow}
use Rattle.sql_parser.proofs.StmtLocals.{word_is}
use Rattle.sql_parser.proofs.Completes.{not_key, Parted, part_ends, no_name_next, no_part_word, comma_is_parted, tree_reads, list_reads}

no_both : {A : Type 0} (x : A) (e : SqlFault) → ◌≡◌ {A = Result A SqlFault} (Ok x) (Err e) → ⊥
no_both x e h = cc

module _ (last : ℕ) where
  -- ---- a star begins no expression

  star_faults : (t : At Token) (ts : Tokens) (x : Token) → t.tok ≡ x → is_sign signs.Star x ≡ true → expr_at last (t ∷ ts) ≡ Err (misplaced last (t ∷ ts))
  unfolding chain or_at and_at is_at cmp_at inn_at cat_at add_at mul_at
  star_faults t ts (tok.sign signs.Star) h e = is_fault (expr_at last (t ∷ ts)) (misplaced last (t ∷ ts)) (expr_same last (t ∷ ts) ∙ rw h refl)
  star_faults t ts _ h e = absurd cc

  pub no_star : (ts rest : Tokens) (e : Tree) → Shallow ts e → Ends rest → after (is_sign signs.Star) (ts ++ rest) ≡ None
  no_star ts rest e s g = of_first (ts ++ rest) (expr_complete last s.1 rest g)
    where
      of_first : (us : Tokens) → {f : Part × Tokens} → expr_at last us ≡ Ok f → after (is_sign signs.Star) us ≡ None
      of_first [] h = refl
      of_first (t ∷ us) {f} h = of_test (is_sign signs.Star t.tok) refl
        where
          of_test : (b : Bool) → is_sign signs.Star t.tok ≡ b → (if b then Some us else None) ≡ None
          of_test false k = refl
          of_test true k = absurd (no_both f (misplaced last (t ∷ us)) (sym h ∙ star_faults t us t.tok refl k))

  -- ---- names given to items

  name_no_as : (x : Token) (n : List ℕ) → named x ≡ Some n → is_word words.As x ≡ false
  unfolding is_reserved
  name_no_as x n h = of_test (is_word words.As x) refl
    where
      of_test : (b : Bool) → is_word words.As x ≡ b → is_word words.As x ≡ false
      of_test false g = g
      of_test true g = let k = word_is words.As x g in absurd (let e : named (tok.word words.As k.0) ≡ Some n = sym (ap named k.1) ∙ h in cc)

  name_goes_on : (x : Token) (n : List ℕ) → named x ≡ Some n → may_go_on x ≡ false
  unfolding is_reserved
  name_goes_on (tok.word words.And s) n e = absurd cc
  name_goes_on (tok.word words.Between s) n e = absurd cc
  name_goes_on (tok.word words.In s) n e = absurd cc
  name_goes_on (tok.word words.Is s) n e = absurd cc
  name_goes_on (tok.word words.Not s) n e = absurd cc
  name_goes_on (tok.word words.Or s) n e = absurd cc
  name_goes_on (tok.word w s) n e = refl
  name_goes_on (tok.quoted s) n e = refl
  name_goes_on (tok.string s) n e = absurd cc
  name_goes_on (tok.number k) n e = absurd cc
  name_goes_on (tok.sign s) n e = absurd cc

  nothing_named : (rest : Tokens) → Parted rest → maybe_name rest ≡ Ok (None, rest)
  nothing_named [] p = refl
  nothing_named (t ∷ ts) p = rw (no_name_next t p) refl

  pub alias_reads : (us rest : Tokens) (n : Option (List ℕ)) → AliasIs us n → Parted rest → alias_at last (us ++ rest) ≡ Ok (n, rest)
  unfolding alias_at
  alias_reads _ rest _ no_alias p = rw (no_part_word words.As (λ e. cc) (λ e. cc) (λ e. cc) (λ e. cc) rest p, nothing_named rest p) refl
  alias_reads _ rest _ (as_alias a t n ha hn) p = rw (ha, hn) refl
  alias_reads _ rest _ (bare_alias t n hn) p = rw (name_no_as t.tok n hn, hn) refl

  pub alias_ends : (us rest : Tokens) (n : Option (List ℕ)) → AliasIs us n → Parted rest → Ends (us ++ rest)
  alias_ends _ rest _ no_alias p = part_ends rest p
  alias_ends _ rest _ (as_alias a t n ha hn) p = let k = word_is words.As a.tok ha in rw k.1 refl
  alias_ends _ rest _ (bare_alias t n hn) p = name_goes_on t.tok n hn

  -- ---- RETURNING

  returned_reads : (s t : List ItemTree) (ts rest : Tokens) → Unit {0} → AddsReturned Shallow s ts t → Unit {0} → Parted rest → added (returned_at last) s (ts ++ rest) ≡ Ok (t, rest)
  unfolding returned_at
  returned_reads _ _ _ rest b (returns_all is s h) f p = rw h refl
  returned_reads _ _ _ rest b (returns_value is ts us e n q a) f p =
      let ends = alias_ends us rest n a p in
      rw (append_assoc ts us rest, no_star ts (us ++ rest) e q ends, tree_reads last ts (us ++ rest) e q ends, alias_reads us rest n a p) refl

  pub returning_reads : (rs : Tokens) (t : Option (List ItemTree)) → ReturningIs Shallow rs t → returning_at last rs ≡ Ok (t, [])
  unfolding returning_at
  returning_reads _ _ returns_nothing = refl
  returning_reads _ _ (returns r ts is h k) =
      let all : items_at (added (returned_at last)) [] ts ≡ Ok (is, []) = ap (items_at (added (returned_at last)) []) (sym (append-nil ts)) ∙ list_reads (added (returned_at last)) (AddsReturned Shallow) (λ s. Unit {0}) (λ s. Unit {0}) Parted (λ s t ts b a. tt) (λ s t ts a b. tt) returned_reads comma_is_parted k tt tt [] tt refl in
      rw (h, all) refl

  -- ---- ON CONFLICT

  key_opens : (x : Token) (w : Word) → is_word w x ≡ true → is_sign signs.Open x ≡ false
  key_opens (tok.word v s) w e = refl
  key_opens _ w e = absurd cc

  pub conflict_reads : (cs rest : Tokens) (b : Bool) → ConflictIs cs b → after (is_word words.On) rest ≡ None → conflict_at last (cs ++ rest) ≡ Ok (b, rest)
  unfolding conflict_at
  conflict_reads _ rest _ fails e = rw e refl
  conflict_reads _ rest _ (does_nothing o c d n ho hc hd hn) e = rw (ho, hc, key_opens d.tok words.Do hd, hd, not_key words.Nothing words.Update n hn (λ e. cc), hn) refl

-- what RETURNING begins with
pub none_at_returning : (is_it : Token → Bool) → ((s : List ℕ) → is_it (tok.word words.Returning s) ≡ false) → (rs : Tokens) (t : Option (List ItemTree)) → ReturningIs Shallow rs t → after is_it rs ≡ None
none_at_returning is_it f _ _ returns_nothing = refl
none_at_returning is_it f _ _ (returns r ts is h k) = let w = word_is words.Returning r.tok h in rw (w.1, f w.0) refl

pub returning_ends : (rs : Tokens) (t : Option (List ItemTree)) → ReturningIs Shallow rs t → Ends rs
returning_ends _ _ returns_nothing = tt
returning_ends _ _ (returns r ts is h k) = let w = word_is words.Returning r.tok h in rw w.1 refl
