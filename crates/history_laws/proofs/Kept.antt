-- In a session's block there is no statement that makes or drops a table.
use Rattle.std.proofs.Common.{◌≡◌, refl, sym, ◌∙◌, ap, Bool, true, false, not, ◌&&◌, ◌||◌, ℕ, ◌<◌, ◌^◌, List, [], ◌∷◌, length, map, arith, Result, Ok, Err}
use Rattle.std.specs.List.{list_any, list_all}
use Rattle.std.specs.Result.{result_map_both}
use Rattle.std.proofs.lemmas.List.{length-map}
use Rattle.iso_lexer.specs.declared.fault.Fault.{Fault}
use Rattle.iso_lexer.specs.declared.token.At.{At}
use Rattle.iso_lexer.specs.Results.{if_ok}
use Rattle.iso_lexer.specs.SqlTokens.{SqlToken, telling}
use Rattle.iso_lexer.specs.SqlText.{sql_front_of, SqlLexes}
use Rattle.iso_lexer.proofs.Lexing as lexing
use Rattle.iso_lexer.proofs.Telling.{answer_made, reads_told, nothing_told}
use Rattle.sql_trees.specs.declared.fault.SqlFault.TheVariants.{Lex}
use Rattle.sql_trees.specs.Statements.{StmtTree, Begin, Commit, Rollback, SetTransaction, SetDeadlockTimeout, Create, DropTables, Inserts, Updates, Deletes, Selects}
use Rattle.sql_trees.specs.Words.{word_of}
use Rattle.sql_trees.specs.Tokens.{Tokens, classify_at}
use Rattle.sql_blocks.specs.declared.block.Role.{Role}
use Rattle.sql_blocks.specs.declared.block.Role.TheVariants.{Session}
use Rattle.sql_blocks.specs.Kept.{is_kept, is_kept_in, makes_or_drops}
use Rattle.sql_parser.specs.Blocks.{block_at}
use Rattle.sql_parser.specs.Texts.{ReadsAs}
use Rattle.sql_parser.proofs.Texts.{few_tokens}
use Rattle.sql_parser.proofs.BlocksRead.{blocks_are_read}
use Rattle.session_machine.specs.Running.{is_definition}
use Rattle.history_laws.proofs.Lexed.{sql_tokens_of}

pub err_not_ok : {A B : Type 0} (a : A) (b : B) → ◌≡◌ {A = Result B A} (Err a) (Ok b) → ⊥
err_not_ok a b e = cc

-- the statements that a text reads as are such as a block keeps
pub kept : (text : List ℕ) (role : Role) (stmts : List StmtTree) → length text < 2 ^ 32 → ReadsAs text role (Ok stmts) → list_all (is_kept_in role) stmts ≡ true
kept text role stmts short r = by (sql_tokens_of text).0 (sql_tokens_of text).1 where
  one : (a : Result (List (At SqlToken)) Fault) → SqlLexes text a → r.lexed ≡ answer_made (telling word_of) a
  one a l = lexing.one_reading (sql_front_of word_of) (length text) text r.lexed (answer_made (telling word_of) a) (nothing_told word_of) r.lexes (reads_told word_of text a l)

  read : (a : Result (List (At SqlToken)) Fault) → SqlLexes text a → if_ok (result_map_both (λ ts. ts) Lex (answer_made (telling word_of) a)) (block_at (length text) role) ≡ Ok stmts
  read a l = ap (λ (x : Result Tokens Fault). if_ok (result_map_both (λ ts. ts) Lex x) (block_at (length text) role)) (sym (one a l)) ∙ r.reads

  by : (a : Result (List (At SqlToken)) Fault) → SqlLexes text a → list_all (is_kept_in role) stmts ≡ true
  by (Err f) l = absurd (err_not_ok (Lex f) stmts (read (Err f) l))
  by (Ok us) l =
      let few = few_tokens text us l in
      let long = length-map us classify_at in
      ((blocks_are_read (length text) role (map classify_at us) stmts (omega (arith, few, long, short))).0 (read (Ok us) l)).2

same_test : (s : StmtTree) → is_definition s ≡ makes_or_drops s
same_test (Create c) = refl
same_test (DropTables d) = refl
same_test (Begin level) = refl
same_test Commit = refl
same_test Rollback = refl
same_test (SetTransaction level) = refl
same_test SetDeadlockTimeout = refl
same_test (Inserts i) = refl
same_test (Updates u) = refl
same_test (Deletes d) = refl
same_test (Selects s) = refl

no_definition : (a d : Bool) → (a && not d) ≡ true → d ≡ false
no_definition true false h = refl
no_definition true true h = cc
no_definition false d h = cc

and_first : (b c : Bool) → (b && c) ≡ true → b ≡ true
and_first true c h = refl
and_first false c h = cc

and_second : (b c : Bool) → (b && c) ≡ true → c ≡ true
and_second true c h = h
and_second false c h = cc

none_of : (a b : Bool) → a ≡ false → b ≡ false → (a || b) ≡ false
none_of true b h k = cc
none_of false b h k = k

-- in a session's block there is none that makes or drops a table
pub no_definitions : (stmts : List StmtTree) → list_all (is_kept_in Session) stmts ≡ true → list_any is_definition stmts ≡ false
no_definitions [] h = refl
no_definitions (s ∷ ss) h =
    let one = no_definition (is_kept s) (makes_or_drops s) (and_first (is_kept_in Session s) (list_all (is_kept_in Session) ss) h) in
    none_of (is_definition s) (list_any is_definition ss) (same_test s ∙ one) (no_definitions ss (and_second (is_kept_in Session s) (list_all (is_kept_in Session) ss) h))
