-- What the tokens spell is read: the parts that statements have, and lists.
use Rattle.std.proofs.Common.{◌≡◌, ℕ, zero, suc, ◌≤◌, Bool, true, false, List, [], ◌∷◌, ◌++◌, length, None, refl, ap, ◌∙◌, append_assoc, length-append, arith}
use Rattle.std.specs.Prelude.{Ok}
use Rattle.iso_lexer.specs.declared.token.At.{At}
use Rattle.iso_lexer.specs.declared.sql_token.SqlSign.TheVariants as signs
use Rattle.sql_trees.specs.declared.word.Word.{Word}
use Rattle.sql_trees.specs.declared.word.Word.TheVariants as words
use Rattle.sql_trees.specs.Words.{is_reserved}
use Rattle.sql_trees.specs.Tokens.{Token, Tokens, named}
use Rattle.sql_trees.specs.Tokens as tok
use Rattle.sql_trees.specs.Trees.{Tree}
use Rattle.sql_expressions.specs.Results.{◌>>=◌}
use Rattle.sql_expressions.specs.Readers.{expect, is_word, is_sign, after, more_at, items_at, Reader}
use Rattle.sql_expressions.specs.Grammar.{Ends, may_go_on}
use Rattle.sql_expressions.proofs.Complete.{expr_complete}
use Rattle.sql_parser.specs.Inner.Parts.{past}
use Rattle.sql_parser.specs.Readers.{tree_at}
use Rattle.sql_parser.specs.Grammar.{Is, Key, Perhaps, nothing, one_is, Commas, last_item, next_item, Shallow}
use Rattle.sql_parser.proofs.StmtLocals.{word_is}

-- ---- words

pub other_word : (v w : Word) (s : List ℕ) → (v ≡ w → ⊥) → is_word w (tok.word v s) ≡ false
other_word v w s f = of_test (is_word w (tok.word v s)) refl
  where
    word_same : (x : Token) (u : Word) (r : List ℕ) → tok.word u s ≡ x → x ≡ tok.word w r → u ≡ w
    word_same x u r h g = let e : tok.word u s ≡ tok.word w r = h ∙ g in cc

    of_test : (b : Bool) → is_word w (tok.word v s) ≡ b → is_word w (tok.word v s) ≡ false
    of_test false h = h
    of_test true h = let k = word_is w (tok.word v s) h in absurd (f (word_same (tok.word v s) v k.0 refl k.1))

-- a token that is one keyword is no other
pub not_key : (v w : Word) (t : At Token) → Key v t → (v ≡ w → ⊥) → is_word w t.tok ≡ false
not_key v w t h f = let k = word_is v t.tok h in ap (is_word w) k.1 ∙ other_word v w k.0 f

-- ---- what stands behind a part of a statement

-- a comma, or the first word of a part of SELECT
abbrev pub ends_part : Token → Bool
ends_part (tok.sign signs.Comma) = true
ends_part (tok.word words.From s) = true
ends_part (tok.word words.Where s) = true
ends_part (tok.word words.Order s) = true
ends_part (tok.word words.For s) = true
ends_part _ = false

abbrev pub Parted : Tokens → Type 0
Parted [] = Unit {0}
Parted (t ∷ ts) = ends_part t.tok ≡ true

part_goes_on : (x : Token) → ends_part x ≡ true → may_go_on x ≡ false
part_goes_on (tok.sign signs.Comma) e = refl
part_goes_on (tok.word words.From s) e = refl
part_goes_on (tok.word words.Where s) e = refl
part_goes_on (tok.word words.Order s) e = refl
part_goes_on (tok.word words.For s) e = refl
part_goes_on _ e = absurd cc

pub part_ends : (ts : Tokens) → Parted ts → Ends ts
part_ends [] p = tt
part_ends (t ∷ ts) p = part_goes_on t.tok p

part_named : (x : Token) → ends_part x ≡ true → named x ≡ None
unfolding is_reserved
part_named (tok.sign signs.Comma) e = refl
part_named (tok.word words.From s) e = refl
part_named (tok.word words.Where s) e = refl
part_named (tok.word words.Order s) e = refl
part_named (tok.word words.For s) e = refl
part_named _ e = absurd cc

pub no_name_next : (t : At Token) → ends_part t.tok ≡ true → named t.tok ≡ None
no_name_next t p = part_named t.tok p

part_word : (w : Word) → (words.From ≡ w → ⊥) → (words.Where ≡ w → ⊥) → (words.Order ≡ w → ⊥) → (words.For ≡ w → ⊥) → (x : Token) → ends_part x ≡ true → is_word w x ≡ false
part_word w f g h k (tok.sign signs.Comma) e = refl
part_word w f g h k (tok.word words.From s) e = other_word words.From w s f
part_word w f g h k (tok.word words.Where s) e = other_word words.Where w s g
part_word w f g h k (tok.word words.Order s) e = other_word words.Order w s h
part_word w f g h k (tok.word words.For s) e = other_word words.For w s k
part_word w f g h k _ e = absurd cc

-- no word that goes on with a part stands there
pub no_part_word : (w : Word) → (words.From ≡ w → ⊥) → (words.Where ≡ w → ⊥) → (words.Order ≡ w → ⊥) → (words.For ≡ w → ⊥) → (ts : Tokens) → Parted ts → after (is_word w) ts ≡ None
no_part_word w f g h k [] p = refl
no_part_word w f g h k (t ∷ ts) p = rw (part_word w f g h k t.tok p) refl

comma_parts : (x : Token) → is_sign signs.Comma x ≡ true → ends_part x ≡ true
comma_parts (tok.sign signs.Comma) e = refl
comma_parts _ e = absurd cc

pub comma_is_parted : (c : At Token) (us : Tokens) → Is (is_sign signs.Comma) c → Parted (c ∷ us)
comma_is_parted c us h = comma_parts c.tok h

comma_goes_on : (x : Token) → is_sign signs.Comma x ≡ true → may_go_on x ≡ false
comma_goes_on (tok.sign signs.Comma) e = refl
comma_goes_on _ e = absurd cc

pub comma_ends : (c : At Token) (us : Tokens) → Is (is_sign signs.Comma) c → Ends (c ∷ us)
comma_ends c us h = comma_goes_on c.tok h

close_goes_on : (x : Token) → is_sign signs.Close x ≡ true → may_go_on x ≡ false
close_goes_on (tok.sign signs.Close) e = refl
close_goes_on _ e = absurd cc

pub close_ends : (c : At Token) (us : Tokens) → Is (is_sign signs.Close) c → Ends (c ∷ us)
close_ends c us h = close_goes_on c.tok h

close_commas : (x : Token) → is_sign signs.Close x ≡ true → is_sign signs.Comma x ≡ false
close_commas (tok.sign signs.Close) e = refl
close_commas _ e = absurd cc

pub no_comma_at_close : (c : At Token) (us : Tokens) → Is (is_sign signs.Close) c → after (is_sign signs.Comma) (c ∷ us) ≡ None
no_comma_at_close c us h = rw (close_commas c.tok h) refl

key_commas : (x : Token) (w : Word) → is_word w x ≡ true → is_sign signs.Comma x ≡ false
key_commas (tok.word v s) w e = refl
key_commas _ w e = absurd cc

pub no_comma_at_key : (w : Word) (t : At Token) (us : Tokens) → Key w t → after (is_sign signs.Comma) (t ∷ us) ≡ None
no_comma_at_key w t us h = rw (key_commas t.tok w h) refl

-- ---- parts

pub perhaps_past : (is_it : Token → Bool) (ws rest : Tokens) → Perhaps is_it ws → after is_it rest ≡ None → past is_it (ws ++ rest) ≡ rest
perhaps_past is_it _ rest nothing h = rw h refl
perhaps_past is_it _ rest (one_is t g) h = rw g refl

pub tree_reads : (last : ℕ) (ts rest : Tokens) (e : Tree) → Shallow ts e → Ends rest → tree_at last (ts ++ rest) ≡ Ok (e, rest)
tree_reads last ts rest e s h = ap (λ r. r >>= λ f. Ok (f.0.tree, f.1)) (expr_complete last s.1 rest h)

pub expect_reads : (last : ℕ) (is_it : Token → Bool) (t : At Token) (us : Tokens) → Is is_it t → expect last is_it (t ∷ us) ≡ Ok us
expect_reads last is_it t us h = rw h refl

-- ---- lists

module _ {S : Type 0} (add : S → Reader S) (Adds : S → Tokens → S → Type 0) (Before : S → Type 0) (After : S → Type 0) (Behind : Tokens → Type 0)
    (goes : (s t : S) (ts : Tokens) → Before s → Adds s ts t → Before t)
    (comes : (s t : S) (ts : Tokens) → Adds s ts t → After t → After s)
    (reads : (s t : S) (ts rest : Tokens) → Before s → Adds s ts t → After t → Behind rest → add s (ts ++ rest) ≡ Ok (t, rest))
    (commas : (c : At Token) (us : Tokens) → Is (is_sign signs.Comma) c → Behind (c ∷ us)) where
  back : {s v : S} {ts : Tokens} → Commas Adds s ts v → After v → After s
  back (last_item s t ts a) h = comes s t ts a h
  back (next_item s t v ts us c a g k) h = comes s t ts a (back k h)

  more_end : (n : ℕ) (s : S) (rest : Tokens) → after (is_sign signs.Comma) rest ≡ None → more_at add n s rest ≡ Ok (s, rest)
  unfolding more_at
  more_end zero s rest h = refl
  more_end (suc n) s rest h = rw h refl

  more_on : (n : ℕ) (s v : S) (c : At Token) (us rest : Tokens) → Is (is_sign signs.Comma) c → length (c ∷ us) ≤ n → ((m : ℕ) → length us ≤ m → (add s us >>= λ x. more_at add m x.0 x.1) ≡ Ok (v, rest)) → more_at add n s (c ∷ us) ≡ Ok (v, rest)
  unfolding more_at
  more_on zero s v c us rest h le k = absurd (omega arith)
  more_on (suc n) s v c us rest h le k = rw h (k n (omega arith))

  turns : {s v : S} {ts : Tokens} → Commas Adds s ts v → Before s → After v → (rest : Tokens) → Behind rest → after (is_sign signs.Comma) rest ≡ None → (n : ℕ) → length (ts ++ rest) ≤ n → (add s (ts ++ rest) >>= λ x. more_at add n x.0 x.1) ≡ Ok (v, rest)
  turns (last_item s t ts a) b f rest h e n le = rw (reads s t ts rest b a f h) (more_end n t rest e)
  turns (next_item s t v ts us c a g k) b f rest h e n le =
      let split : (ts ++ c ∷ us) ++ rest ≡ ts ++ (c ∷ (us ++ rest)) = append_assoc ts (c ∷ us) rest in
      let first : add s (ts ++ (c ∷ (us ++ rest))) ≡ Ok (t, c ∷ (us ++ rest)) = reads s t ts (c ∷ (us ++ rest)) b a (back k f) (commas c (us ++ rest) g) in
      rw (split, first) (more_on n t v c (us ++ rest) rest g (omega (arith, ap length split, length-append ts (c ∷ (us ++ rest)))) (λ m le'. turns k (goes s t ts b a) f rest h e m le'))

  pub list_reads : {s v : S} {ts : Tokens} → Commas Adds s ts v → Before s → After v → (rest : Tokens) → Behind rest → after (is_sign signs.Comma) rest ≡ None → items_at add s (ts ++ rest) ≡ Ok (v, rest)
  unfolding items_at
  list_reads {ts = ts} k b f rest h e = turns k b f rest h e (length (ts ++ rest)) (omega arith)
