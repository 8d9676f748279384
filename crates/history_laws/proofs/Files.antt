-- The bytes of a file are a spec, or have a refusal.
use Rattle.std.proofs.Common.{◌≡◌, ◌≢◌, refl, Bool, true, false, true≢false, sym, ◌∙◌, ℕ, ◌<◌, ◌≤◌, ◌⊎◌, inl, inr, List, [], ◌∷◌, length, map, arith, Result, Ok, Err}
use Rattle.std.specs.Prelude.{IsUtf8}
use Rattle.std.specs.Str.Lossy.{utf8_valid_len}
use Rattle.std.specs.Result.{result_map_both}
use Rattle.std.proofs.lemmas.Bool.{cases_lt}
use Rattle.std.specs.Str.{is_utf8}
use Rattle.std.proofs.lemmas.Str.{IsUtf8-from_is_utf8, is_utf8-from_IsUtf8}
use Rattle.iso_lexer.specs.declared.fault.Fault.{Fault}
use Rattle.iso_lexer.specs.declared.fault.FaultKind.TheVariants.{FileTooLong}
use Rattle.iso_lexer.specs.declared.limits.TheConstants.{LONGEST_FILE}
use Rattle.iso_lexer.specs.declared.token.At.{At}
use Rattle.iso_lexer.specs.Results.{if_ok}
use Rattle.iso_lexer.specs.SpecTokens.{SpecToken}
use Rattle.iso_lexer.specs.SpecText.{Lexes, spec_front}
use Rattle.iso_lexer.specs.SqlTokens.{SqlToken}
use Rattle.iso_lexer.specs.SqlText.{SqlLexes}
use Rattle.iso_lexer.proofs.SpecRules.{spec_rules, lexes}
use Rattle.iso_lexer.proofs.Telling.{reads_told}
use Rattle.sql_trees.specs.declared.fault.SqlFault.{SqlFault}
use Rattle.sql_trees.specs.declared.fault.SqlFault.TheVariants.{Memory, Lex}
use Rattle.sql_trees.specs.Statements.{StmtTree}
use Rattle.sql_trees.specs.Tokens.{classify_at}
use Rattle.sql_trees.specs.Words.{word_of}
use Rattle.sql_blocks.specs.declared.block.Role.{Role}
use Rattle.sql_parser.specs.Blocks.{block_at}
use Rattle.sql_parser.specs.Texts.{ReadsAs}
use Rattle.session_machine.specs.Machine.{Blocks}
use Rattle.spec_parser.specs.declared.fault.SpecFault.{SpecFault}
use Rattle.spec_parser.specs.declared.fault.SpecFault.TheVariants as spec_faults
use Rattle.spec_parser.specs.Trees.{SpecTree}
use Rattle.spec_parser.specs.Names.{names_resolved}
use Rattle.spec_parser.specs.Reading.{file_at}
use Rattle.spec_parser.specs.SpecText.{SpecReads, no_tokens, tokens}
use Rattle.spec_files.specs.declared.fault.BlockFault.{BlockFault}
use Rattle.spec_files.specs.declared.fault.RunFault.{RunFault}
use Rattle.spec_files.specs.declared.fault.RunFault.TheVariants as faults
use Rattle.spec_files.specs.Faults.{spec_fault}
use Rattle.spec_files.specs.Blocks.{BlockWithRole, BlocksRead, none, fault, block, blocks_in}
use Rattle.spec_files.specs.Files.{File, FileIs, longer, no_text, no_spec, no_sql, is_spec}
use Rattle.history_laws.proofs.Lexed.{reads_some, sql_tokens_of}
use Rattle.history_laws.proofs.Fine.{Fine}
use Rattle.history_laws.proofs.FineSql.{fine_block}

-- ---- blocks

-- what a text reads as
record Reading (text : List ℕ) (role : Role) : Type 0 where
  pub answer : Result (List StmtTree) SqlFault
  pub reads : ReadsAs text role answer
  pub fine : Fine answer

lex_is : (f : Fault) → Lex f ≢ Memory
lex_is f h = cc

reading : (text : List ℕ) (role : Role) → Reading text role
reading text role = by (sql_tokens_of text).0 (sql_tokens_of text).1 where
  by : (a : Result (List (At SqlToken)) Fault) → SqlLexes text a → Reading text role
  by (Ok ts) l = record {
    answer = block_at (length text) role (map classify_at ts);
    reads = record { lexed = Ok (map classify_at ts); lexes = reads_told word_of text (Ok ts) l; reads = refl };
    fine = fine_block (length text) role (map classify_at ts);
  }
  by (Err f) l = record { answer = Err (Lex f); reads = record { lexed = Err f; lexes = reads_told word_of text (Err f) l; reads = refl }; fine = lex_is f }

abbrev HasBlocks : List BlockWithRole → Type 0
HasBlocks ps = (answer : Result Blocks BlockFault) × BlocksRead ps answer

by_reading : (p : BlockWithRole) (ps : List BlockWithRole) (answer : Result (List StmtTree) SqlFault) → ReadsAs p.part.sql p.role answer → Fine answer → HasBlocks ps → HasBlocks (p ∷ ps)
by_reading p ps (Ok stmts) reads fine more = (result_map_both (λ blocks. stmts ∷ blocks) (λ f. f) more.0, block stmts more.0 reads more.1 refl)
by_reading p ps (Err f) reads fine more = (Err (record { block = p.part.at; fault = f }), fault f fine reads refl)

some_blocks : (ps : List BlockWithRole) → HasBlocks ps
some_blocks [] = (Ok [], none refl)
some_blocks (p ∷ ps) = let r = reading p.part.sql p.role in by_reading p ps r.answer r.reads r.fine (some_blocks ps)

-- ---- specs

some_spec : (text : List ℕ) → length text ≤ LONGEST_FILE → (answer : Result SpecTree SpecFault) × SpecReads text answer
some_spec text short =
    let r = reads_some spec_front spec_rules (length text) (length text) text (omega arith) in
    by r.0 (lexes text r.0 short r.1) where
      by : (a : Result (List (At SpecToken)) Fault) → Lexes text a → (answer : Result SpecTree SpecFault) × SpecReads text answer
      by (Ok ts) l = (if_ok (file_at (length text) ([], ts)) (λ x. names_resolved x.0), tokens ts l refl)
      by (Err f) l = (Err (spec_faults.Lex f), no_tokens f l)

-- ---- files

abbrev IsSome : List ℕ → Type 0
IsSome bytes = (answer : Result File RunFault) × FileIs bytes answer

of_blocks : (bytes : List ℕ) (spec : SpecTree) (answer : Result Blocks BlockFault) → length bytes ≤ LONGEST_FILE → IsUtf8 bytes → SpecReads bytes (Ok spec) → BlocksRead (blocks_in spec) answer → IsSome bytes
of_blocks bytes spec (Ok blocks) short utf8 reads read = (Ok (record { spec = spec; blocks = blocks }), is_spec spec blocks short utf8 reads read)
of_blocks bytes spec (Err f) short utf8 reads read = (Err (faults.Sql f), no_sql spec f short utf8 reads read)

of_spec : (bytes : List ℕ) (answer : Result SpecTree SpecFault) → length bytes ≤ LONGEST_FILE → IsUtf8 bytes → SpecReads bytes answer → IsSome bytes
of_spec bytes (Ok spec) short utf8 reads = let b = some_blocks (blocks_in spec) in of_blocks bytes spec b.0 short utf8 reads b.1
of_spec bytes (Err f) short utf8 reads = (Err (spec_fault f), no_spec f short utf8 reads)

is_text : (bytes : List ℕ) → IsUtf8 bytes ⊎ (IsUtf8 bytes → ⊥)
is_text bytes = by (is_utf8 bytes) refl where
  by : (b : Bool) → is_utf8 bytes ≡ b → IsUtf8 bytes ⊎ (IsUtf8 bytes → ⊥)
  by true e = inl (IsUtf8-from_is_utf8 bytes e)
  by false e = inr (λ h. true≢false (sym (is_utf8-from_IsUtf8 bytes h) ∙ e))

pub some_file : (bytes : List ℕ) → IsSome bytes
some_file bytes = by (cases_lt LONGEST_FILE (length bytes)) (is_text bytes) where
  by : (LONGEST_FILE < length bytes) ⊎ (length bytes ≤ LONGEST_FILE) → IsUtf8 bytes ⊎ (IsUtf8 bytes → ⊥) → IsSome bytes
  by (inl long) text = (Err (faults.Lex (record { kind = FileTooLong; at = LONGEST_FILE })), longer long)
  by (inr short) (inr other) = (Err (faults.NotUtf8 (utf8_valid_len bytes)), no_text short other)
  by (inr short) (inl utf8) = let s = some_spec bytes short in of_spec bytes s.0 short utf8 s.1
