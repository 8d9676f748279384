-- What stands behind IN and BETWEEN is read before its node is made.
use Rattle.std.proofs.Common.{◌≡◌, ℕ, Bool, [], ◌∷◌, Option, Some, None, refl, max}
use Rattle.std.specs.Prelude.{Result, Ok, Err, if◌then◌else◌}
use Rattle.iso_lexer.specs.declared.token.At.{At}
use Rattle.iso_lexer.specs.declared.sql_token.SqlSign.TheVariants as signs
use Rattle.sql_trees.specs.declared.fault.SqlFault.{SqlFault}
use Rattle.sql_trees.specs.declared.word.Word.TheVariants as words
use Rattle.sql_trees.specs.Tokens.{Token, Tokens}
use Rattle.sql_trees.specs.Tokens as tok
use Rattle.sql_trees.specs.Trees.{Tree}
use Rattle.sql_expressions.specs.declared.level.Opened.{Opened}
use Rattle.sql_expressions.specs.Results.{◌>>=◌}
use Rattle.sql_expressions.specs.Readers.{is_sign, expect}
use Rattle.sql_expressions.specs.declared.level.Opened.TheVariants.{Whole}
use Rattle.sql_expressions.specs.Inner.Pieces.{Found, Reader, Found_list, Among, deeper, list_at, cat_at, range_node, between_at, upper_at, list_open_at, contains_at, in_at, not_in_of, not_in_at, inn_of, inn_more, inn_at, among_of, among_at, not_among_of, not_among_in}

-- what is made of a value may be made in two steps
into : {A B C : Type 0} (m : Result A SqlFault) (f : A → Result B SqlFault) (g : B → Result C SqlFault) (h : A → Result C SqlFault) → ((x : A) → h x ≡ (f x >>= g)) → (m >>= h) ≡ ((m >>= f) >>= g)
into (Ok x) f g h e = e x
into (Err x) f g h e = refl

-- the same is made of a value by what makes the same of each
same : {A B : Type 0} (m : Result A SqlFault) (f g : A → Result B SqlFault) → ((x : A) → f x ≡ g x) → (m >>= f) ≡ (m >>= g)
same (Ok x) f g e = e x
same (Err x) f g e = refl

module _ (last : ℕ) (inside : Opened → ℕ → Reader) (negated : Bool) (place : ℕ) (left : Tree) (depth : ℕ) (ts : Tokens) where
  abbrev ranged : Found → Found → Result Found SqlFault
  ranged low high = range_node negated place left depth (record { low = (low.tree, low.depth); high = (high.tree, high.depth); rest = high.rest })

  between_is : between_at last inside negated place left depth ts ≡ (deeper place depth >>= λ here. cat_at last inside ts >>= λ low. upper_at last place (max depth low.depth) low.rest >>= λ behind. cat_at last inside behind >>= ranged low)
  unfolding between_at
  between_is =
      same (deeper place depth) _ _ (λ here.
      same (cat_at last inside ts) _ _ (λ low.
      into (deeper place (max depth low.depth)) _ _ _ (λ there. refl)))

  pub between_no_room : (f : SqlFault) → deeper place depth ≡ Err f → between_at last inside negated place left depth ts ≡ Err f
  between_no_room f e = rw (between_is, e) refl

  pub between_no_low : (d : ℕ) (f : SqlFault) → deeper place depth ≡ Ok d → cat_at last inside ts ≡ Err f → between_at last inside negated place left depth ts ≡ Err f
  between_no_low d f e k = rw (between_is, e, k) refl

  pub between_no_upper : (d : ℕ) (low : Found) (f : SqlFault) → deeper place depth ≡ Ok d → cat_at last inside ts ≡ Ok low → upper_at last place (max depth low.depth) low.rest ≡ Err f → between_at last inside negated place left depth ts ≡ Err f
  between_no_upper d low f e k u = rw (between_is, e, k, u) refl

  pub between_no_high : (d : ℕ) (low : Found) (us : Tokens) (f : SqlFault) → deeper place depth ≡ Ok d → cat_at last inside ts ≡ Ok low → upper_at last place (max depth low.depth) low.rest ≡ Ok us → cat_at last inside us ≡ Err f → between_at last inside negated place left depth ts ≡ Err f
  between_no_high d low us f e k u h = rw (between_is, e, k, u, h) refl

  pub between_made : (d : ℕ) (low high : Found) (us : Tokens) → deeper place depth ≡ Ok d → cat_at last inside ts ≡ Ok low → upper_at last place (max depth low.depth) low.rest ≡ Ok us → cat_at last inside us ≡ Ok high → between_at last inside negated place left depth ts ≡ ranged low high
  between_made d low high us e k u h = rw (between_is, e, k, u, h) refl

  in_is : in_at last inside negated place left depth ts ≡ (list_open_at last place depth ts >>= λ x. list_at (inside Whole x.0) x.1 >>= λ l. contains_at last negated place (max depth l.depth) left l.trees l.rest)
  unfolding in_at
  in_is =
      into (deeper place depth) _ _ _ (λ here.
      into (expect last (is_sign signs.Open) ts) _ _ _ (λ behind. refl))

  pub in_no_list : (f : SqlFault) → list_open_at last place depth ts ≡ Err f → in_at last inside negated place left depth ts ≡ Err f
  in_no_list f e = rw (in_is, e) refl

  pub in_stops : (x : ℕ × Tokens) (f : SqlFault) → list_open_at last place depth ts ≡ Ok x → list_at (inside Whole x.0) x.1 ≡ Err f → in_at last inside negated place left depth ts ≡ Err f
  in_stops x f e k = rw (in_is, e, k) refl

  pub in_made : (x : ℕ × Tokens) (l : Found_list) → list_open_at last place depth ts ≡ Ok x → list_at (inside Whole x.0) x.1 ≡ Ok l → in_at last inside negated place left depth ts ≡ contains_at last negated place (max depth l.depth) left l.trees l.rest
  in_made x l e k = rw (in_is, e, k) refl

module _ (last : ℕ) (inside : Opened → ℕ → Reader) where
  -- what is read behind an operand, once it is known what stands there
  abbrev pub tested : Found → Option Among → Result Found SqlFault
  tested a None = Ok a
  tested a (Some m) = if m.ranged then between_at last inside m.negated m.place a.tree a.depth m.rest else in_at last inside m.negated m.place a.tree a.depth m.rest

  not_token : (x : Token) (place : ℕ) (a : Found) (t : At Token) (ts : Tokens) → not_in_of last inside x place a t ts ≡ ((not_among_of last x place t ts >>= λ m. Ok (Some m)) >>= tested a)
  not_token (tok.word words.In s) place a t ts = refl
  not_token (tok.word words.Between s) place a t ts = refl
  not_token _ place a t ts = refl

  not_tokens : (place : ℕ) (a : Found) (ts : Tokens) → not_in_at last inside place a ts ≡ ((not_among_in last place ts >>= λ m. Ok (Some m)) >>= tested a)
  not_tokens place a [] = refl
  not_tokens place a (t ∷ ts) = not_token t.tok place a t ts

  not_room : (r : Result ℕ SqlFault) (place : ℕ) (a : Found) (ts : Tokens) → (r >>= λ here. not_in_at last inside place a ts) ≡ (((r >>= λ here. not_among_in last place ts) >>= λ m. Ok (Some m)) >>= tested a)
  not_room (Ok d) place a ts = not_tokens place a ts
  not_room (Err f) place a ts = refl

  among_token : (x : Token) (place : ℕ) (a : Found) (ts : Tokens) → inn_of last inside x place a ts ≡ (among_of last x place a.depth ts >>= tested a)
  among_token (tok.word words.In s) place a ts = refl
  among_token (tok.word words.Between s) place a ts = refl
  among_token (tok.word words.Not s) place a ts = not_room (deeper place a.depth) place a ts
  among_token _ place a ts = refl

  among_is : (a : Found) (ts : Tokens) → inn_more last inside a ts ≡ (among_at last a.depth ts >>= tested a)
  among_is a [] = refl
  among_is a (t ∷ ts) = among_token t.tok t.span.start a ts

  pub inn_stops : (ts : Tokens) (f : SqlFault) → cat_at last inside ts ≡ Err f → inn_at last inside ts ≡ Err f
  unfolding inn_at
  inn_stops ts f e = rw e refl

  pub inn_no_test : (ts : Tokens) (a : Found) (f : SqlFault) → cat_at last inside ts ≡ Ok a → among_at last a.depth a.rest ≡ Err f → inn_at last inside ts ≡ Err f
  unfolding inn_at
  inn_no_test ts a f e k = rw (e, among_is a a.rest, k) refl

  pub inn_tested : (ts : Tokens) (a : Found) (m : Option Among) → cat_at last inside ts ≡ Ok a → among_at last a.depth a.rest ≡ Ok m → inn_at last inside ts ≡ tested a m
  unfolding inn_at
  inn_tested ts a m e k = rw (e, among_is a a.rest, k) refl
