-- What a text reads as doesn't depend on what is told of a word.
use Rattle.std.proofs.Common.{◌≡◌, ℕ, Bool, true, false, cond, List, [], ◌∷◌, length, drop, map, Option, Some, None, Result, Ok, Err, refl, sym, ap, ◌∙◌}
use Rattle.std.specs.Prelude.{◌==◌, ◌||◌, ◌&&◌, ◌-◌, nat_lt, slice_index, not, bytes_eq, take, take_while}
use Rattle.std.specs.Option.{option_map_or}
use Rattle.std.specs.Result.{result_map_both}
use Rattle.std.specs.Char.{is_ascii_digit}
use Rattle.std.specs.Str.Parse.{digits_value}
use Rattle.iso_lexer.specs.declared.fault.Fault.{Fault}
use Rattle.iso_lexer.specs.declared.fault.FaultKind.{FaultKind}
use Rattle.iso_lexer.specs.declared.fault.FaultKind.TheVariants.{UnterminatedName, UnterminatedString, UnterminatedComment, UnexpectedByte, NumberTooLarge}
use Rattle.iso_lexer.specs.declared.sql_token.SqlSign.{SqlSign}
use Rattle.iso_lexer.specs.declared.token.At.{At}
use Rattle.iso_lexer.specs.Bytes.{is_blank, is_name_start, is_name_byte, drop_while, row_of}
use Rattle.iso_lexer.specs.Comments.{after_comment}
use Rattle.iso_lexer.specs.SqlTokens.{SqlTokenOf, SqlToken, telling, word, quoted, string, number, sign}
use Rattle.iso_lexer.specs.Lexing.{Front, gap, token, fault, of_run, Reads, ends, takes, fails, plain_at}
use Rattle.iso_lexer.specs.Lexing.{passes as skips}
use Rattle.iso_lexer.specs.Quotes.{closing, quoted_front}
use Rattle.iso_lexer.specs.SqlText.{sql_signs, number_front, sql_front_of, sql_front, SqlLexes}
use Rattle.iso_lexer.proofs.QuoteEnds.{made}

-- ---- of any rules

-- the answer with other tokens made of its tokens
abbrev pub answer_made : {A B : Type 0} → (A → B) → Result (List (At A)) Fault → Result (List (At B)) Fault
answer_made make answer = result_map_both (map (plain_at make)) (λ f. f) answer

module _ {A B : Type 0} (make : A → B) (front : List ℕ → Front A) (other : List ℕ → Front B) (alike : (text : List ℕ) → other text ≡ made make (front text)) where
  one_more : (t : At A) (more : Result (List (At A)) Fault)
      → answer_made make (result_map_both (λ ts. t ∷ ts) (λ f. f) more) ≡ result_map_both (λ ts. plain_at make t ∷ ts) (λ f. f) (answer_made make more)
  one_more t (Ok ts) = refl
  one_more t (Err f) = refl

  pub reads_alike : (total : ℕ) (text : List ℕ) (answer : Result (List (At A)) Fault) → Reads front total text answer → Reads other total text (answer_made make answer)
  reads_alike total text answer ends = ends
  reads_alike total text answer (skips rest lt e r) = skips rest lt (alike text ∙ ap (made make) e) (reads_alike total rest answer r)
  reads_alike total text answer (takes t rest {more = more} e r is) =
      takes (make t) rest (alike text ∙ ap (made make) e) (reads_alike total rest more r)
      (ap (answer_made make) is ∙ one_more (record { tok = t; span = record { start = total - length text; end = total - length rest } }) more)
  reads_alike total text answer (fails kind n e is) = fails kind n (alike text ∙ ap (made make) e) (ap (answer_made make) is)

-- ---- of SQL

-- the first of seven tests that is passed, and what stands where none is
abbrev ladder : {T : Type 0} → Bool → Bool → Bool → Bool → Bool → Bool → Bool → T → T → T → T → T → T → T → T → T
ladder a b c d e f g p q r s t u v w = cond a p (cond b q (cond c r (cond d s (cond e t (cond f u (cond g v w))))))

module _ {A B : Type 0} (make : A → B) where
  of_ladder : (a b c d e f g : Bool) (p q r s t u v w : Front A)
      → made make (ladder a b c d e f g p q r s t u v w)
      ≡ ladder a b c d e f g (made make p) (made make q) (made make r) (made make s) (made make t) (made make u) (made make v) (made make w)
  of_ladder true b c d e f g p q r s t u v w = refl
  of_ladder false true c d e f g p q r s t u v w = refl
  of_ladder false false true d e f g p q r s t u v w = refl
  of_ladder false false false true e f g p q r s t u v w = refl
  of_ladder false false false false true f g p q r s t u v w = refl
  of_ladder false false false false false true g p q r s t u v w = refl
  of_ladder false false false false false false true p q r s t u v w = refl
  of_ladder false false false false false false false p q r s t u v w = refl

  of_test : (b : Bool) (x y : Front A) → made make (cond b x y) ≡ cond b (made make x) (made make y)
  of_test true x y = refl
  of_test false x y = refl

  of_option : {K : Type 0} (o : Option K) (f : K → Front A) (x : Front A) → made make (option_map_or f o x) ≡ option_map_or (λ k. made make (f k)) o (made make x)
  of_option (Some k) f x = refl
  of_option None f x = refl

module _ {W : Type 0} (told : List ℕ → W) where
  abbrev to : SqlToken → SqlTokenOf W
  to t = telling told t

  of_number : (digits rest : List ℕ) → made to (number_front digits rest) ≡ number_front digits rest
  of_number digits rest =
      of_test to (nat_lt 9223372036854775807 (digits_value 10 digits)) (fault NumberTooLarge 0) _
      ∙ ap (cond (nat_lt 9223372036854775807 (digits_value 10 digits)) (fault NumberTooLarge 0))
      (of_test to (is_name_byte (slice_index rest 0)) (fault UnexpectedByte (length digits)) (token (number (digits_value 10 digits)) rest))

  of_quoted : (mark : ℕ) (make : List ℕ → SqlToken) (kind : FaultKind) (bs : List ℕ)
      → made to (quoted_front mark make bs bs (fault kind 0)) ≡ quoted_front mark (λ s. to (make s)) bs bs (fault kind 0)
  of_quoted mark make kind bs = of_option to (closing mark false bs) (λ n. token (make (take (n - 1) bs)) (drop n bs)) (fault kind 0)

  of_comment : (o : Option (List ℕ)) → made to (option_map_or gap o (fault UnterminatedComment 0)) ≡ option_map_or gap o (fault UnterminatedComment 0)
  of_comment o = of_option to o gap (fault UnterminatedComment 0)

  abbrev by_signs : {V : Type 0} → Option SqlSign → Option SqlSign → List ℕ → Front (SqlTokenOf V)
  by_signs two one bs = option_map_or (λ s. token (sign s) (drop 1 bs)) two (option_map_or (λ s. token (sign s) bs) one (fault UnexpectedByte 0))

  of_signs : (two one : Option SqlSign) (bs : List ℕ) → made to (by_signs two one bs) ≡ by_signs two one bs
  of_signs (Some s) one bs = refl
  of_signs None (Some s) bs = refl
  of_signs None None bs = refl

  pub fronts_alike : (text : List ℕ) → sql_front_of told text ≡ made to (sql_front text)
  unfolding sql_front_of
  fronts_alike [] = refl
  fronts_alike (b ∷ bs) =
      let c = slice_index bs 0 in
      let digits = take_while is_ascii_digit (b ∷ bs) in
      let rest = drop_while is_ascii_digit (b ∷ bs) in
      let two = row_of bytes_eq sql_signs (b ∷ c ∷ []) in
      let one = row_of bytes_eq sql_signs (b ∷ []) in
      sym
      (of_ladder to (is_name_start b) (is_blank b || b == 10) (is_ascii_digit b) (b == 34) (b == 39) (b == 45 && c == 45) (b == 47 && c == 42)
      (of_run is_name_byte (word tt) (b ∷ bs)) (gap bs) (number_front digits rest)
      (quoted_front 34 quoted bs bs (fault UnterminatedName 0)) (quoted_front 39 string bs bs (fault UnterminatedString 0))
      (gap (drop_while (λ a. not (a == 10 || a == 13)) (b ∷ bs))) (option_map_or gap (after_comment 0 (drop 1 bs)) (fault UnterminatedComment 0)) (by_signs two one bs)
      ∙ (λ i. ladder (is_name_start b) (is_blank b || b == 10) (is_ascii_digit b) (b == 34) (b == 39) (b == 45 && c == 45) (b == 47 && c == 42)
      (of_run is_name_byte (λ w. word (told w) w) (b ∷ bs)) (gap bs) (of_number digits rest i) (of_quoted 34 quoted UnterminatedName bs i) (of_quoted 39 string UnterminatedString bs i)
      (gap (drop_while (λ a. not (a == 10 || a == 13)) (b ∷ bs))) (of_comment (after_comment 0 (drop 1 bs)) i) (of_signs two one bs i)))

  -- what the lexer reads is what is read where this is told of words
  pub reads_told : (text : List ℕ) (answer : Result (List (At SqlToken)) Fault) → SqlLexes text answer → Reads (sql_front_of told) (length text) text (answer_made to answer)
  reads_told text answer r = reads_alike to sql_front (sql_front_of told) fronts_alike (length text) text answer r

  pub nothing_told : sql_front_of told [] ≡ gap []
  unfolding sql_front_of
  nothing_told = refl
