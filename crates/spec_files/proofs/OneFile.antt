-- The bytes of a file are one thing.
use Rattle.std.proofs.Common.{◌≡◌, ℕ, List, [], ◌∷◌, Result, Ok, Err, refl, sym, ap, subst, ◌∙◌, arith}
use Rattle.iso_lexer.specs.declared.fault.Fault.{Fault}
use Rattle.iso_lexer.specs.declared.token.At.{At}
use Rattle.iso_lexer.specs.SqlTokens.{SqlToken}
use Rattle.iso_lexer.specs.SqlText.{SqlLexes}
use Rattle.sql_trees.specs.declared.fault.SqlFault.{SqlFault}
use Rattle.sql_trees.specs.Statements.{StmtTree}
use Rattle.sql_blocks.specs.declared.block.Role.{Role}
use Rattle.sql_parser.specs.Texts.{ReadsAs}
use Rattle.sql_parser.proofs.Texts.{one_reading}
use Rattle.session_machine.specs.Machine.{Blocks}
use Rattle.spec_parser.specs.declared.fault.SpecFault.{SpecFault}
use Rattle.spec_parser.specs.Trees.{SpecTree}
use Rattle.spec_parser.specs.SpecText.{SpecReads}
use Rattle.spec_parser.specs.Laws.{OneAnswer}
use Rattle.spec_files.specs.declared.fault.BlockFault.{BlockFault}
use Rattle.spec_files.specs.declared.fault.RunFault.{RunFault}
use Rattle.spec_files.specs.declared.fault.RunFault.TheVariants as faults
use Rattle.spec_files.specs.Faults.{spec_fault}
use Rattle.spec_files.specs.Blocks.{BlockWithRole, BlocksRead, none, fault, block, blocks_in}
use Rattle.spec_files.proofs.Behind.{behind_block}
use Rattle.permutation_lists.specs.Permutations.{permutations_of}
use Rattle.report_text.specs.Said.{Said}
use Rattle.spec_files.specs.Lists.{listed, FileLists, refused, lists}
use Rattle.spec_files.specs.Laws.{FilesAreOneThing}
use Rattle.spec_files.specs.Files.{File, FileIs, longer, no_text, no_spec, no_sql, is_spec}

-- ---- a block

-- a text has one list of tokens, or one first fault of them
abbrev pub OneLexing : Type 0
OneLexing = (text : List ℕ) (x y : Result (List (At SqlToken)) Fault) → SqlLexes text x → SqlLexes text y → x ≡ y

one_block : OneLexing → (text : List ℕ) (role : Role) (x y : Result (List StmtTree) SqlFault) → ReadsAs text role x → ReadsAs text role y → x ≡ y
one_block one text role x y r s = one_reading text role x y r s

-- ---- blocks

pub err_ok : {A B : Type 0} (a : A) (b : B) → ◌≡◌ {A = Result B A} (Err a) (Ok b) → ⊥
err_ok a b e = cc

stmts_are : (a b : List StmtTree) → ◌≡◌ {A = Result (List StmtTree) SqlFault} (Ok a) (Ok b) → a ≡ b
stmts_are a b e = cc

sql_fault_is : (a b : SqlFault) → ◌≡◌ {A = Result (List StmtTree) SqlFault} (Err a) (Err b) → a ≡ b
sql_fault_is a b e = cc

pub one_blocks : OneLexing → (ps : List BlockWithRole) (x y : Result Blocks BlockFault) → BlocksRead ps x → BlocksRead ps y → x ≡ y
one_blocks one [] x y (none e) (none f) = e ∙ sym f
one_blocks one (p ∷ ps) x y (fault f m h e) (fault g n k is) =
    e ∙ ap (λ (q : SqlFault). Err (record { block = p.part.at; fault = q })) (sql_fault_is f g (one_block one p.part.sql p.role (Err f) (Err g) h k)) ∙ sym is
one_blocks one (p ∷ ps) x y (fault f m h e) (block bs others k more is) = absurd (err_ok f bs (one_block one p.part.sql p.role (Err f) (Ok bs) h k))
one_blocks one (p ∷ ps) x y (block xs others h more e) (fault g n k is) = absurd (err_ok g xs (one_block one p.part.sql p.role (Err g) (Ok xs) k h))
one_blocks one (p ∷ ps) x y (block xs others h more e) (block bs others' k more' is) =
    e ∙ ap (behind_block xs) (one_blocks one ps others others' more more') ∙ ap (λ (zs : List StmtTree). behind_block zs others') (stmts_are xs bs (one_block one p.part.sql p.role (Ok xs) (Ok bs) h k)) ∙ sym is

-- ---- files

told : Result SpecTree SpecFault → Result File RunFault
told (Ok spec) = Ok (record { spec = spec; blocks = [] })
told (Err f) = Err (spec_fault f)

spec_is : (a b : SpecTree) → ◌≡◌ {A = Result SpecTree SpecFault} (Ok a) (Ok b) → a ≡ b
spec_is a b e = cc

block_fault_is : (a b : BlockFault) → ◌≡◌ {A = Result Blocks BlockFault} (Err a) (Err b) → a ≡ b
block_fault_is a b e = cc

blocks_are : (a b : Blocks) → ◌≡◌ {A = Result Blocks BlockFault} (Ok a) (Ok b) → a ≡ b
blocks_are a b e = cc

-- two specs of one text are one, and so is what their blocks say
said : OneAnswer → OneLexing → (bytes : List ℕ) (s t : SpecTree) (x y : Result Blocks BlockFault) → SpecReads bytes (Ok s) → SpecReads bytes (Ok t) → BlocksRead (blocks_in s) x → BlocksRead (blocks_in t) y → x ≡ y
said one lex bytes s t x y r q h k = one_blocks lex (blocks_in s) x y h (subst (λ u. BlocksRead (blocks_in u) y) (sym (spec_is s t (one bytes (Ok s) (Ok t) r q))) k)

pub one_file : OneAnswer → OneLexing → (bytes : List ℕ) (x y : Result File RunFault) → FileIs bytes x → FileIs bytes y → x ≡ y
unfolding told
one_file one lex bytes x y (longer l) (longer l') = refl
one_file one lex bytes x y (longer l) (no_text s' n') = absurd (omega (arith, l, s'))
one_file one lex bytes x y (longer l) (no_spec f' s' u' r') = absurd (omega (arith, l, s'))
one_file one lex bytes x y (longer l) (no_sql a' m' s' u' r' b') = absurd (omega (arith, l, s'))
one_file one lex bytes x y (longer l) (is_spec a' bs' s' u' r' b') = absurd (omega (arith, l, s'))
one_file one lex bytes x y (no_text s n) (longer l') = absurd (omega (arith, l', s))
one_file one lex bytes x y (no_text s n) (no_text s' n') = refl
one_file one lex bytes x y (no_text s n) (no_spec f' s' u' r') = absurd (n u')
one_file one lex bytes x y (no_text s n) (no_sql a' m' s' u' r' b') = absurd (n u')
one_file one lex bytes x y (no_text s n) (is_spec a' bs' s' u' r' b') = absurd (n u')
one_file one lex bytes x y (no_spec f s u r) (longer l') = absurd (omega (arith, l', s))
one_file one lex bytes x y (no_spec f s u r) (no_text s' n') = absurd (n' u)
one_file one lex bytes x y (no_spec f s u r) (no_spec f' s' u' r') = ap told (one bytes (Err f) (Err f') r r')
one_file one lex bytes x y (no_spec f s u r) (no_sql a' m' s' u' r' b') = absurd (err_ok f a' (one bytes (Err f) (Ok a') r r'))
one_file one lex bytes x y (no_spec f s u r) (is_spec a' bs' s' u' r' b') = absurd (err_ok f a' (one bytes (Err f) (Ok a') r r'))
one_file one lex bytes x y (no_sql a m s u r b) (longer l') = absurd (omega (arith, l', s))
one_file one lex bytes x y (no_sql a m s u r b) (no_text s' n') = absurd (n' u)
one_file one lex bytes x y (no_sql a m s u r b) (no_spec f' s' u' r') = absurd (err_ok f' a (one bytes (Err f') (Ok a) r' r))
one_file one lex bytes x y (no_sql a m s u r b) (no_sql a' m' s' u' r' b') = ap (λ (k : BlockFault). Err (faults.Sql k)) (block_fault_is m m' (said one lex bytes a a' (Err m) (Err m') r r' b b'))
one_file one lex bytes x y (no_sql a m s u r b) (is_spec a' bs' s' u' r' b') = absurd (err_ok m bs' (said one lex bytes a a' (Err m) (Ok bs') r r' b b'))
one_file one lex bytes x y (is_spec a bs s u r b) (longer l') = absurd (omega (arith, l', s))
one_file one lex bytes x y (is_spec a bs s u r b) (no_text s' n') = absurd (n' u)
one_file one lex bytes x y (is_spec a bs s u r b) (no_spec f' s' u' r') = absurd (err_ok f' a (one bytes (Err f') (Ok a) r' r))
one_file one lex bytes x y (is_spec a bs s u r b) (no_sql a' m' s' u' r' b') = absurd (err_ok m' bs (said one lex bytes a' a (Err m') (Ok bs) r' r b' b))
one_file one lex bytes x y (is_spec a bs s u r b) (is_spec a' bs' s' u' r' b') = ap (λ (t : SpecTree). Ok (record { spec = t; blocks = bs })) (spec_is a a' (one bytes (Ok a) (Ok a') r r')) ∙ ap (λ (cs : Blocks). Ok (record { spec = a'; blocks = cs })) (blocks_are bs bs' (said one lex bytes a a' (Ok bs) (Ok bs') r r' b b'))

-- ---- lists

pub err_is : {A B : Type 0} (a b : A) → ◌≡◌ {A = Result B A} (Err a) (Err b) → a ≡ b
err_is a b e = cc

pub file_is : (a b : File) → ◌≡◌ {A = Result File RunFault} (Ok a) (Ok b) → a ≡ b
file_is a b e = cc

pub one_list : FilesAreOneThing → (bytes : List ℕ) (limit : ℕ) (x y : Result Said RunFault) → FileLists bytes limit x → FileLists bytes limit y → x ≡ y
one_list one bytes limit x y (refused e h) (refused f k) = ap Err (err_is e f (one bytes (Err e) (Err f) h k))
one_list one bytes limit x y (refused e h) (lists b k) = absurd (err_ok e b (one bytes (Err e) (Ok b) h k))
one_list one bytes limit x y (lists a h) (refused f k) = absurd (err_ok f a (one bytes (Err f) (Ok a) k h))
one_list one bytes limit x y (lists a h) (lists b k) = ap (λ (f : File). Ok (listed f.spec limit (permutations_of f.spec))) (file_is a b (one bytes (Ok a) (Ok b) h k))
