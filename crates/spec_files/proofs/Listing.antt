-- The loop over the permutations that are listed.
use Rattle.std.proofs.Common.{◌≡◌, ◌≢◌, true, ℕ, zero, suc, ◌-◌, ◌<◌, List, [], ◌∷◌, ◌++◌, Option, Some, None, Result, Ok, Err, refl, sym, ap, subst, ◌∙◌, arith, append_assoc}
use Rattle.std.specs.Prelude.{IfSome, take}
use Rattle.std.proofs.lemmas.List.{append-nil}
use Rattle.std.specs.Io.KnownBytes.{Appends}
use Rattle.iso_lexer.specs.Devices.{PutsFront}
use Rattle.spec_parser.specs.Trees.{EntryTree, SpecTree}
use Rattle.permutation_lists.specs.Lines.{line_text}
use Rattle.report_text.specs.Said.{Said, Ending, only_ends, whole, too_many}
use Rattle.spec_files.specs.Runs.{is_refusal, is_of_reading, is_of_listing, AnswersRun, IsListed}
use Rattle.spec_files.specs.Begun.{ListBegun, begun}
use Rattle.spec_files.specs.declared.fault.RunFault.{RunFault}
use Rattle.spec_files.specs.declared.fault.RunFault.TheVariants.{TooManyPermutations, Memory}
use Rattle.spec_files.specs.declared.fault.RunFault.TheVariants as faults
use Rattle.iso_lexer.specs.declared.whole.ReadFault.{ReadFault}
use Rattle.iso_lexer.specs.declared.whole.ReadFault.TheVariants as read_faults
use Rattle.spec_files.specs.Faults.{read_fault}
use Rattle.spec_files.specs.Lists.{listed, FileLists, refused, lists}
use Rattle.permutation_lists.specs.Permutations.{permutations_of}
use Rattle.spec_files.specs.Files.{File, FileIs}

-- the same behind other text and notes
abbrev pub behind : List ℕ → List ℕ → Said → Said
behind text notes said = record { text = text ++ said.text; notes = notes ++ said.notes; ending = said.ending }

-- what went out so far, with the rest behind it, is the whole
pub record SoFar (old new : Option (List ℕ)) (all rest : Said) : Type 0 where
  pub text : List ℕ
  pub out : Appends old new text
  pub is : all ≡ behind text [] rest

pub appends_nothing : (a : Option (List ℕ)) → Appends a a []
appends_nothing None = tt
appends_nothing (Some xs) = sym (append-nil xs)

pub appends_more : (a b c : Option (List ℕ)) (bs cs : List ℕ) → Appends a b bs → Appends b c cs → Appends a c (bs ++ cs)
appends_more None b c bs cs p q = tt
appends_more (Some xs) None c bs cs p q = absurd p
appends_more (Some xs) (Some ys) None bs cs p q = absurd q
appends_more (Some xs) (Some ys) (Some zs) bs cs p q = q ∙ ap (λ (l : List ℕ). l ++ cs) p ∙ append_assoc xs bs cs

pub starts : (old : Option (List ℕ)) (all : Said) → SoFar old old all all
starts old all = record { text = []; out = appends_nothing old; is = refl }

behind_behind : (a b : List ℕ) (said : Said) → behind a [] (behind b [] said) ≡ behind (a ++ b) [] said
behind_behind a b said = ap (λ (t : List ℕ). record { text = t; notes = said.notes; ending = said.ending }) (sym (append_assoc a b said.text))

listed_one : (spec : SpecTree) (left : ℕ) (p : List EntryTree) (ps : List (List EntryTree)) → 0 < left → listed spec left (p ∷ ps) ≡ behind (line_text spec p) [] (listed spec (left - 1) ps)
unfolding listed
listed_one spec zero p ps lt = absurd (omega arith)
listed_one spec (suc left) p ps lt = ap (λ (n : ℕ). behind (line_text spec p) [] (listed spec n ps)) (let e : left ≡ suc left - 1 = omega arith in e)

-- one more line
pub goes_on : (spec : SpecTree) (left : ℕ) (old mid new : Option (List ℕ)) (all : Said) (more : List (List EntryTree)) (p : List EntryTree) (ps : List (List EntryTree)) (line : List ℕ)
    → SoFar old mid all (listed spec left more) → more ≡ p ∷ ps → 0 < left → line ≡ line_text spec p → Appends mid new line → SoFar old new all (listed spec (left - 1) ps)
goes_on spec left old mid new all more p ps line so is lt same put = record {
  text = so.text ++ line;
  out = appends_more old mid new so.text line so.out put;
  is = so.is ∙ ap (λ (ms : List (List EntryTree)). behind so.text [] (listed spec left ms)) is ∙ ap (behind so.text []) (listed_one spec left p ps lt)
      ∙ ap (λ (t : List ℕ). behind so.text [] (behind t [] (listed spec (left - 1) ps))) (sym same) ∙ behind_behind so.text line (listed spec (left - 1) ps);
}

ends : (old new : Option (List ℕ)) (result : Result (Unit {0}) RunFault) (all : Said) (how : Ending) → AnswersRun how result → SoFar old new all (only_ends how) → IsListed old new result all
ends old new result all how answers so =
    subst (IsListed old new result) (sym so.is) (record { answer = answers; text = subst (Appends old new) (sym (append-nil so.text)) so.out })

-- all lines are out
pub all_listed : (spec : SpecTree) (left : ℕ) (old new : Option (List ℕ)) (said : Said) (more : List (List EntryTree)) → SoFar old new said (listed spec left more) → more ≡ [] → IsListed old new (Ok tt) said
unfolding listed
all_listed spec left old new said more so is = ends old new (Ok tt) said whole refl (subst (λ (ms : List (List EntryTree)). SoFar old new said (listed spec left ms)) is so)

-- there is one more than may be listed
pub one_too_many : (spec : SpecTree) (left : ℕ) (old new : Option (List ℕ)) (said : Said) (more : List (List EntryTree)) (p : List EntryTree) (ps : List (List EntryTree)) → SoFar old new said (listed spec left more) → more ≡ p ∷ ps → left ≡ 0 → IsListed old new (Err TooManyPermutations) said
unfolding listed
one_too_many spec left old new said more p ps so is none =
    let here : SoFar old new said (listed spec left (p ∷ ps)) = subst (λ (ms : List (List EntryTree)). SoFar old new said (listed spec left ms)) is so in
    ends old new (Err TooManyPermutations) said too_many refl (subst (λ (n : ℕ). SoFar old new said (listed spec n (p ∷ ps))) none here)

-- ---- refusals

pub differs : (e : RunFault) → is_refusal e ≡ true → e ≢ Memory
differs e is same = no (subst (λ (f : RunFault). is_refusal f ≡ true) same is)
  where
    no : is_refusal Memory ≡ true → ⊥
    no h = cc

pub refused_list : (bytes : List ℕ) (limit : ℕ) (e : RunFault) → (e ≢ Memory → FileIs bytes (Err e)) → is_refusal e ≡ true → FileLists bytes limit (Err e)
refused_list bytes limit e is refusal = refused e (is (differs e refusal))

pub file_listed : (bytes : List ℕ) (limit : ℕ) (file : File) → FileIs bytes (Ok file) → FileLists bytes limit (Ok (listed file.spec limit (permutations_of file.spec)))
file_listed bytes limit file is = lists file is

-- ---- what went out

pub nothing_put : (a : Option (List ℕ)) (text : List ℕ) → PutsFront a a text
nothing_put a text = record { front = []; rest = text; begins = refl; went_out = appends_nothing a }

-- a front of a text's first piece
pub front_of_piece : (a b : Option (List ℕ)) (piece more : List ℕ) → PutsFront a b piece → PutsFront a b (piece ++ more)
front_of_piece a b piece more p = record {
  front = p.front;
  rest = p.rest ++ more;
  begins = ap (λ (l : List ℕ). l ++ more) p.begins ∙ append_assoc p.front p.rest more;
  went_out = p.went_out;
}

-- a text, and a front of what comes behind it
pub front_behind : (a b c : Option (List ℕ)) (line text : List ℕ) → Appends a b line → PutsFront b c text → PutsFront a c (line ++ text)
front_behind a b c line text put p = record {
  front = line ++ p.front;
  rest = p.rest;
  begins = ap (λ (l : List ℕ). line ++ l) p.begins ∙ sym (append_assoc line p.front p.rest);
  went_out = appends_more a b c line p.front put p.went_out;
}

-- what went out so far is a front of the whole
pub front_out : (old new : Option (List ℕ)) (all rest : Said) → SoFar old new all rest → PutsFront old new all.text
front_out old new all rest so = record { front = so.text; rest = rest.text; begins = ap (λ (s : Said). s.text) so.is; went_out = so.out }

-- and so it is with a front of one line more
pub front_more : (spec : SpecTree) (left : ℕ) (old mid new : Option (List ℕ)) (all : Said) (more : List (List EntryTree)) (p : List EntryTree) (ps : List (List EntryTree)) (line : List ℕ)
    → SoFar old mid all (listed spec left more) → more ≡ p ∷ ps → 0 < left → line ≡ line_text spec p → PutsFront mid new line → PutsFront old new all.text
front_more spec left old mid new all more p ps line so is lt same put =
    let rest = (listed spec (left - 1) ps).text in
    let text : all.text ≡ so.text ++ (line ++ rest) =
    ap (λ (s : Said). s.text) so.is
    ∙ ap (λ (ms : List (List EntryTree)). so.text ++ (listed spec left ms).text) is
    ∙ ap (λ (s : Said). so.text ++ s.text) (listed_one spec left p ps lt)
    ∙ ap (λ (t : List ℕ). so.text ++ (t ++ rest)) (sym same) in
    subst (PutsFront old new) (sym text) (front_behind old mid new so.text (line ++ rest) so.out (front_of_piece mid new line rest put))

pub list_begun : (bytes : List ℕ) (limit : ℕ) (file : File) (old new : Option (List ℕ)) → FileIs bytes (Ok file) → PutsFront old new (listed file.spec limit (permutations_of file.spec)).text → ListBegun bytes limit old new
list_begun bytes limit file old new is put = begun (listed file.spec limit (permutations_of file.spec)) (lists file is) put

pub reading_lists : (e : RunFault) → is_of_reading e ≡ true → is_of_listing e ≡ true
reading_lists (faults.Lex f) is = refl
reading_lists (faults.Spec f) is = refl
reading_lists (faults.Sql f) is = refl
reading_lists (faults.NotUtf8 at) is = refl
reading_lists faults.Memory is = refl
reading_lists faults.Read is = refl
reading_lists faults.Write is = refl
reading_lists faults.TooManyPermutations is = refl
reading_lists (faults.SetupFailed text) is = absurd cc
reading_lists faults.SetupWaits is = absurd cc
reading_lists faults.ScheduleBroken is = absurd cc
reading_lists (faults.Threads f) is = absurd cc

pub read_lists : (f : ReadFault) → is_of_listing (read_fault f) ≡ true
read_lists read_faults.Memory = refl
read_lists read_faults.Device = refl

pub each_some : {A : Type 0} (P : A → Type 0) (o : Option A) → ((x : A) → P x) → IfSome o P
each_some P None all = tt
each_some P (Some x) all = all x

-- what is so of the bytes that were read is so of those that the source had
pub of_bytes : (P : List ℕ → Type 0) (limit : ℕ) (o : Option (List ℕ)) (bytes read : List ℕ) → bytes ≡ read → IfSome o (λ xs. read ≡ take limit xs) → P bytes → IfSome o (λ xs. P (take limit xs))
of_bytes P limit None bytes read same is so = tt
of_bytes P limit (Some xs) bytes read same is so = subst P (same ∙ is) so
