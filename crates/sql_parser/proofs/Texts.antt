-- SQL text and its tokens.
use Rattle.std.proofs.Common.{◌≡◌, ℕ, ◌<◌, ◌≤◌, List, [], ◌∷◌, length, map, refl, sym, ap, ◌∙◌, subst, arith}
use Rattle.std.proofs.lemmas.List.{length-map}
use Rattle.std.specs.Prelude.{Result, Ok, Err}
use Rattle.std.specs.Result.{result_map_both}
use Rattle.iso_lexer.specs.declared.fault.Fault.{Fault}
use Rattle.iso_lexer.specs.declared.token.At.{At}
use Rattle.iso_lexer.specs.Lexing.{gap, token, Reads}
use Rattle.iso_lexer.specs.Lexing as lexing
use Rattle.iso_lexer.specs.SqlText.{sql_front_of, sql_front, SqlLexes}
use Rattle.iso_lexer.specs.declared.sql_token.SqlTok.{SqlTok}
use Rattle.iso_lexer.specs.SqlTokens.{SqlToken, sql_at_views}
use Rattle.iso_lexer.specs.Inner.Rules.{Shorter, between, in_front}
use Rattle.iso_lexer.proofs.SqlRules.{sql_rules}
use Rattle.iso_lexer.proofs.Lexing as lexing_proofs
use Rattle.iso_lexer.proofs.Telling.{reads_told, nothing_told}
use Rattle.sql_trees.specs.declared.fault.SqlFault.{SqlFault}
use Rattle.sql_trees.specs.declared.fault.SqlFault.TheVariants.{Memory, Lex}
use Rattle.sql_trees.specs.Statements.{StmtTree}
use Rattle.sql_trees.specs.declared.token.Tok.{Tok}
use Rattle.sql_trees.specs.Words.{word_of}
use Rattle.sql_trees.specs.Tokens.{Tokens, classify_at, tok_at, tok_views}
use Rattle.sql_expressions.specs.Results.{Gives, ◌>>=◌}
use Rattle.sql_blocks.specs.declared.block.Role.{Role}
use Rattle.sql_parser.proofs.Lists.{gives_same}
use Rattle.sql_parser.proofs.BlockReadings.{block_same}
use Rattle.sql_parser.specs.Inner.Calls.{seen}
use Rattle.sql_parser.specs.Blocks.{block_at}
use Rattle.sql_parser.specs.Inner.Blocks as blocks
use Rattle.sql_parser.specs.Texts.{ReadsAs, Parses}

some_token : (text : List ℕ) (t : SqlToken) (rest : List ℕ) → sql_front text ≡ token t rest → 0 < length text
some_token [] t rest e = let n = sql_rules.nothing in absurd cc
some_token (b ∷ bs) t rest e = omega arith

token_shorter : (text : List ℕ) (t : SqlToken) (rest : List ℕ) → sql_front text ≡ token t rest → length rest < length text
token_shorter text t rest e = subst (Shorter (length text)) e (sql_rules.shorter text (some_token text t rest e))

gap_shorter : (text rest : List ℕ) → 0 < length text → sql_front text ≡ gap rest → length rest < length text
gap_shorter text rest h e = subst (Shorter (length text)) e (sql_rules.shorter text h)

few : {total : ℕ} {text : List ℕ} {answer : Result (List (At SqlToken)) Fault} → Reads sql_front total text answer → (ts : List (At SqlToken)) → answer ≡ Ok ts → length ts ≤ length text
few lexing.ends ts e = let same : [] ≡ ts = cc in subst (λ us. length us ≤ 0) same (omega arith)
few {text = text} (lexing.passes rest h e r) ts same = omega (arith, few r ts same, gap_shorter text rest h e)
few {total = total} {text = text} (lexing.takes t rest {more = more} e r eq) ts same = of_more more (few r) (sym eq ∙ same)
  where
    of_more : (m : Result (List (At SqlToken)) Fault) → ((us : List (At SqlToken)) → m ≡ Ok us → length us ≤ length rest) → in_front (between total text t rest ∷ []) m ≡ Ok ts → length ts ≤ length text
    of_more (Ok us) k h =
        let same' : between total text t rest ∷ us ≡ ts = cc in
        subst (λ vs. length vs ≤ length text) same' (omega (arith, k us refl, token_shorter text t rest e))
    of_more (Err f) k h = absurd cc
few (lexing.fails kind n e eq) ts same = absurd cc

-- a text has no more tokens than bytes
pub few_tokens : (text : List ℕ) (ts : List (At SqlToken)) → SqlLexes text (Ok ts) → length ts ≤ length text
few_tokens text ts r = few r ts refl

module _ {B : Type 0} (view : B → List StmtTree) (text : List ℕ) (role : Role) (ts : List (At SqlToken)) where
  reads : (r : Result B SqlFault) → SqlLexes text (Ok ts) → Gives view r (block_at (length text) role (map classify_at ts)) → Parses text role (seen view r)
  reads (Ok b) l g = record { lexed = Ok (map classify_at ts); lexes = reads_told word_of text (Ok ts) l; reads = g }
  reads (Err Memory) l g = tt
  reads (Err _) l g = record { lexed = Ok (map classify_at ts); lexes = reads_told word_of text (Ok ts) l; reads = g }

  -- what the tokens read as, the text reads as
  pub parses : (r : Result B SqlFault) → SqlLexes text (Ok ts) → Gives view r (blocks.block_at (length text) role (map classify_at ts)) → Parses text role (seen view r)
  parses r l g = reads r l (gives_same view r (block_at (length text) role (map classify_at ts)) (blocks.block_at (length text) role (map classify_at ts)) (block_same (length text) role (map classify_at ts)) g)

-- a text with a fault of its tokens has that fault
pub has_fault : (text : List ℕ) (role : Role) (f : Fault) → SqlLexes text (Err f) → Parses text role (Err (Lex f))
has_fault text role f l = record { lexed = Err f; lexes = reads_told word_of text (Err f) l; reads = refl }

-- what a text is read as is one thing
pub one_reading : (text : List ℕ) (role : Role) (x y : Result (List StmtTree) SqlFault) → ReadsAs text role x → ReadsAs text role y → x ≡ y
one_reading text role x y r s =
    let one : r.lexed ≡ s.lexed = lexing_proofs.one_reading (sql_front_of word_of) (length text) text r.lexed s.lexed (nothing_told word_of) r.lexes s.lexes in
    sym r.reads ∙ ap (λ (l : Result Tokens Fault). result_map_both (λ ts. ts) Lex l >>= block_at (length text) role) one ∙ s.reads

-- nor has it more with their keywords
pub tokens_fit : (text : List ℕ) (xs : List (At SqlTok)) (ys : List (At Tok)) → SqlLexes text (Ok (sql_at_views xs)) → tok_views ys ≡ map classify_at (sql_at_views xs) → length ys ≤ length text
tokens_fit text xs ys l e = omega (arith, few_tokens text (sql_at_views xs) l, length-map (sql_at_views xs) classify_at, length-map ys tok_at, ap length e)
