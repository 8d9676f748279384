-- What the parts of a file answer, put together.
use Rattle.std.proofs.Common.{◌≡◌, ◌≢◌, ℕ, suc, ◌≤◌, true, List, [], ◌∷◌, ◌++◌, map, flat_map, length, IsUtf8, Ok, Err, refl, sym, subst, arith, append_assoc}
use Rattle.std.specs.Prelude.{option_to_list}
use Rattle.std.specs.Global.{Vec}
use Rattle.std.specs.List.{All, AllByRecursion}
use Rattle.iso_lexer.specs.declared.limits.TheConstants.{LONGEST_FILE}
use Rattle.sql_blocks.specs.declared.block.Block.{Block}
use Rattle.sql_blocks.specs.Blocks.{blocks_of}
use Rattle.spec_parser.specs.declared.fault.SpecFault.{SpecFault}
use Rattle.spec_parser.specs.declared.fault.SpecFault.TheVariants as faults
use Rattle.spec_parser.specs.Trees.{PartTree, SpecTree}
use Rattle.spec_parser.specs.Stands.{PartLies, LiesIn, parts_of, session_parts}
use Rattle.spec_parser.specs.SpecText.{SpecAnswers, SpecReads}
use Rattle.spec_files.specs.declared.fault.RunFault.{RunFault}
use Rattle.spec_files.specs.declared.fault.RunFault.TheVariants as told
use Rattle.spec_files.specs.Faults.{spec_fault}
use Rattle.spec_files.specs.Runs.{is_of_reading}
use Rattle.sql_blocks.specs.declared.block.Role.{Role}
use Rattle.sql_blocks.specs.declared.block.Role.TheVariants.{Main, Session}
use Rattle.spec_files.specs.Blocks.{BlockWithRole, blocks_in, BlocksRead}
use Rattle.spec_files.specs.BlockAnswers.{block_as, SayAll, HasShortText}
use Rattle.spec_files.specs.Files.{FileIs, no_spec, no_sql, is_spec}

refused : (bytes : List ℕ) (f : SpecFault) → length bytes ≤ LONGEST_FILE → IsUtf8 bytes → SpecAnswers bytes (Err f) → spec_fault f ≢ told.Memory → FileIs bytes (Err (spec_fault f))
refused bytes faults.Memory short utf8 a differs = absurd (differs refl)
refused bytes (faults.Lex f) short utf8 a differs = no_spec (faults.Lex f) short utf8 a
refused bytes (faults.Expected w at) short utf8 a differs = no_spec (faults.Expected w at) short utf8 a
refused bytes (faults.DuplicateStep at) short utf8 a differs = no_spec (faults.DuplicateStep at) short utf8 a
refused bytes (faults.UndefinedStep at) short utf8 a differs = no_spec (faults.UndefinedStep at) short utf8 a
refused bytes (faults.UndefinedMarker at) short utf8 a differs = no_spec (faults.UndefinedMarker at) short utf8 a
refused bytes (faults.NoticesLeftOut at) short utf8 a differs = no_spec (faults.NoticesLeftOut at) short utf8 a
refused bytes (faults.Limit at) short utf8 a differs = no_spec (faults.Limit at) short utf8 a

-- the text is that of the bytes
pub spec_refused : (bytes text : List ℕ) (f : SpecFault) (e : RunFault) → text ≡ bytes → length bytes ≤ LONGEST_FILE → IsUtf8 bytes → SpecAnswers text (Err f) → e ≡ spec_fault f → e ≢ told.Memory → FileIs bytes (Err e)
spec_refused bytes text f e same short utf8 a is differs =
    subst (λ (d : RunFault). FileIs bytes (Err d)) (sym is) (refused bytes f short utf8 (subst (λ t. SpecAnswers t (Err f)) same a) (subst (λ (d : RunFault). d ≢ told.Memory) is differs))

-- ---- a file that is a spec

-- it is short enough, UTF-8, and says this, with these blocks
pub record IsSpecFile (bytes : List ℕ) (spec : SpecTree) (parts : List BlockWithRole) : Type 0 where
  pub short : length bytes ≤ LONGEST_FILE
  pub utf8 : IsUtf8 bytes
  pub reads : SpecReads bytes (Ok spec)
  pub same : parts ≡ blocks_in spec

pub spec_file : (bytes text : List ℕ) (spec : SpecTree) (parts : List BlockWithRole) → text ≡ bytes → length bytes ≤ LONGEST_FILE → IsUtf8 bytes → SpecReads text (Ok spec) → parts ≡ blocks_in spec → IsSpecFile bytes spec parts
spec_file bytes text spec parts same short utf8 reads e = record { short = short; utf8 = utf8; reads = subst (λ t. SpecReads t (Ok spec)) same reads; same = e }

pub block_refused : (bytes : List ℕ) (spec : SpecTree) (parts : List BlockWithRole) (e : RunFault) → IsSpecFile bytes spec parts → SayAll parts (Err e) → e ≢ told.Memory → FileIs bytes (Err e)
block_refused bytes spec parts told.Memory file says differs = absurd (differs refl)
block_refused bytes spec parts (told.Sql f) file says differs = no_sql spec f file.short file.utf8 file.reads (subst (λ ps. BlocksRead ps (Err f)) file.same says)
block_refused bytes spec parts told.Read file says differs = absurd says
block_refused bytes spec parts told.Write file says differs = absurd says
block_refused bytes spec parts (told.Lex f) file says differs = absurd says
block_refused bytes spec parts (told.Spec f) file says differs = absurd says
block_refused bytes spec parts (told.SetupFailed t) file says differs = absurd says
block_refused bytes spec parts told.SetupWaits file says differs = absurd says
block_refused bytes spec parts told.ScheduleBroken file says differs = absurd says
block_refused bytes spec parts (told.Threads f) file says differs = absurd says
block_refused bytes spec parts told.TooManyPermutations file says differs = absurd says
block_refused bytes spec parts (told.NotUtf8 at) file says differs = absurd says

pub whole_file : (bytes : List ℕ) (spec : SpecTree) (parts : List BlockWithRole) (bs : Vec Block) → IsSpecFile bytes spec parts → SayAll parts (Ok bs) → FileIs bytes (Ok (record { spec = spec; blocks = blocks_of bs.items }))
whole_file bytes spec parts bs file says = is_spec spec (blocks_of bs.items) file.short file.utf8 file.reads (subst (λ ps. BlocksRead ps (Ok (blocks_of bs.items))) file.same says)

-- ---- which faults there are

pub spec_kind : (f : SpecFault) → is_of_reading (spec_fault f) ≡ true
spec_kind faults.Memory = refl
spec_kind (faults.Lex f) = refl
spec_kind (faults.Expected w at) = refl
spec_kind (faults.DuplicateStep at) = refl
spec_kind (faults.UndefinedStep at) = refl
spec_kind (faults.UndefinedMarker at) = refl
spec_kind (faults.NoticesLeftOut at) = refl
spec_kind (faults.Limit at) = refl

pub blocks_kind : (parts : List BlockWithRole) (e : RunFault) → SayAll parts (Err e) → is_of_reading e ≡ true
blocks_kind parts told.Memory says = refl
blocks_kind parts (told.Sql f) says = refl
blocks_kind parts told.Read says = absurd says
blocks_kind parts told.Write says = absurd says
blocks_kind parts (told.Lex f) says = absurd says
blocks_kind parts (told.Spec f) says = absurd says
blocks_kind parts (told.SetupFailed t) says = absurd says
blocks_kind parts told.SetupWaits says = absurd says
blocks_kind parts told.ScheduleBroken says = absurd says
blocks_kind parts (told.Threads f) says = absurd says
blocks_kind parts told.TooManyPermutations says = absurd says
blocks_kind parts (told.NotUtf8 at) says = absurd says

-- ---- each block is short

all_to : {A : Type 0} (P : A → Type 0) (xs : List A) → All P xs → AllByRecursion P xs
all_to P [] all = tt
all_to P (x ∷ xs) all = (all 0 x (omega arith), all_to P xs (λ k d lt. all (suc k) d (omega arith)))

all_append : {A : Type 0} (P : A → Type 0) (xs ys : List A) → AllByRecursion P xs → AllByRecursion P ys → AllByRecursion P (xs ++ ys)
all_append P [] ys a b = b
all_append P (x ∷ xs) ys a b = (a.0, all_append P xs ys a.1 b)

all_front : {A : Type 0} (P : A → Type 0) (xs ys : List A) → AllByRecursion P (xs ++ ys) → AllByRecursion P xs
all_front P [] ys a = tt
all_front P (x ∷ xs) ys a = (a.0, all_front P xs ys a.1)

all_back : {A : Type 0} (P : A → Type 0) (xs ys : List A) → AllByRecursion P (xs ++ ys) → AllByRecursion P ys
all_back P [] ys a = a
all_back P (x ∷ xs) ys a = all_back P xs ys a.1

own_short : (text : List ℕ) (role : Role) → length text ≤ LONGEST_FILE → (ps : List PartTree) → AllByRecursion (PartLies text) ps → AllByRecursion HasShortText (map (block_as role) ps)
own_short text role short [] all = tt
own_short text role short (p ∷ ps) all = (let within = all.0.within in omega arith, own_short text role short ps all.1)

all_short : (text : List ℕ) (spec : SpecTree) → length text ≤ LONGEST_FILE → LiesIn text spec → AllByRecursion HasShortText (blocks_in spec)
all_short text spec short lies =
    let all : AllByRecursion (PartLies text) (parts_of spec) = all_to (PartLies text) (parts_of spec) lies.parts in
    let mains = spec.setups ++ option_to_list spec.teardown in
    let owns = flat_map session_parts spec.sessions in
    let split : AllByRecursion (PartLies text) (mains ++ owns) = subst (AllByRecursion (PartLies text)) (sym (append_assoc spec.setups (option_to_list spec.teardown) owns)) all in
    all_append HasShortText (map (block_as Main) mains) (map (block_as Session) owns) (own_short text Main short mains (all_front (PartLies text) mains owns split)) (own_short text Session short owns (all_back (PartLies text) mains owns split))

pub parts_short : (bytes : List ℕ) (spec : SpecTree) (parts : List BlockWithRole) → IsSpecFile bytes spec parts → LiesIn bytes spec → AllByRecursion HasShortText parts
parts_short bytes spec parts file lies = subst (AllByRecursion HasShortText) (sym file.same) (all_short bytes spec file.short lies)
