-- What went out of a run that ended early.
use Rattle.std.proofs.Common.{◌≡◌, ◌⊎◌, inl, inr, ℕ, ◌+◌, ◌<◌, List, [], ◌∷◌, ◌++◌, Bool, Option, Result, Ok, Err, refl, sym, ap, subst, arith, append_assoc}
use Rattle.std.proofs.lemmas.List.{append-nil}
use Rattle.std.specs.Io.KnownBytes.{Appends}
use Rattle.iso_lexer.specs.Devices.{PutsFront}
use Rattle.session_machine.specs.declared.reply.HistItem.{HistItem}
use Rattle.session_machine.specs.Machine.{Blocks}
use Rattle.spec_parser.specs.Trees.{EntryTree, SpecTree}
use Rattle.permutation_lists.specs.Permutations.{permutations_of}
use Rattle.permutation_plans.specs.Regular.{IsRegular}
use Rattle.permutation_plans.specs.FreeRegular.{IsFreeRegular}
use Rattle.report_text.specs.declared.fault.ReportFault.{ReportFault}
use Rattle.report_text.specs.declared.fault.ReportFault.TheVariants as writes
use Rattle.report_text.specs.Said.{Said, Ending, only_ends, whole, invalid, setup_failed, setup_waits, too_many}
use Rattle.report_text.specs.Answers.{Puts}
use Rattle.report_text.specs.FreeText.{free_says}
use Rattle.report_text.specs.Permutation.{permutation_says}
use Rattle.spec_files.specs.declared.fault.RunFault.{RunFault}
use Rattle.spec_files.specs.FirstLine.{first_line}
use Rattle.spec_files.specs.Files.{File, FileIs}
use Rattle.spec_files.specs.Inner.GoesOn.{GoesOn}
use Rattle.spec_files.specs.Prints.{Prints, runs}
use Rattle.spec_files.specs.FreeRuns.{free_text, IsFreeWritten}
use Rattle.spec_files.specs.Written.{IsWritten}
use Rattle.report_text.specs.declared.fault.Ended.{Ended}
use Rattle.spec_files.specs.Begun.{Begun, none, fronts, NotesBehind, unnoted, noted, PutsWhole, OneSays, report as of_one, RunSays, run, FileMaySay, file as of_file, FreeSays, free, FileSaysFreely, freely}
use Rattle.spec_files.proofs.Listing.{behind, appends_more, front_behind, front_of_piece, nothing_put}
use Rattle.spec_files.proofs.Printing.{SoFar, one_more}

-- ---- fronts

-- a text is a front of itself, with something behind it
put_with : (a b : Option (List ℕ)) (text rest : List ℕ) → Appends a b text → PutsFront a b (text ++ rest)
put_with a b text rest put = record { front = text; rest = rest; begins = refl; went_out = put }

put_whole : (a b : Option (List ℕ)) (text : List ℕ) → Appends a b text → PutsFront a b text
put_whole a b text put = subst (PutsFront a b) (append-nil text) (put_with a b text [] put)

-- what a report or a free text put, whatever was answered
puts_front : (told : Result Ended ReportFault) (a b : Option (List ℕ)) (text : List ℕ) → Puts a b text told → PutsFront a b text
puts_front (Ok e) a b text put = put_whole a b text put
puts_front (Err (writes.SetupFailed why)) a b text put = put_whole a b text put
puts_front (Err writes.SetupWaits) a b text put = put_whole a b text put
puts_front (Err writes.Write) a b text put = put
puts_front (Err writes.Memory) a b text put = put

-- a text went out, and nothing more
put_still : (a b c : Option (List ℕ)) (text : List ℕ) → Appends a b text → c ≡ b → PutsFront a c (text ++ [])
put_still a b c text put same = subst (λ (d : Option (List ℕ)). PutsFront a d (text ++ [])) (sym same) (put_with a b text [] put)

-- ---- whole texts, and notes behind them

whole_put : (a b : Option (List ℕ)) (text : List ℕ) → Appends a b text → PutsWhole a b text
whole_put a b text put = record { more = []; went_out = subst (Appends a b) (sym (append-nil text)) put }

-- a text, and behind it more
whole_then : (a b c : Option (List ℕ)) (text more : List ℕ) → Appends a b text → Appends b c more → PutsWhole a c text
whole_then a b c text more put then = record { more = more; went_out = appends_more a b c text more put then }

-- a text behind a line
whole_behind : (a b c : Option (List ℕ)) (line text : List ℕ) → Appends a b line → PutsWhole b c text → PutsWhole a c (line ++ text)
whole_behind a b c line text put w = record { more = w.more; went_out = subst (Appends a c) (sym (append_assoc line text w.more)) (appends_more a b c line (text ++ w.more) put w.went_out) }

-- a text is one with nothing behind it
whole_nil : (a b : Option (List ℕ)) (text : List ℕ) → PutsWhole a b text → PutsWhole a b (text ++ [])
whole_nil a b text w = subst (PutsWhole a b) (sym (append-nil text)) w

-- what is so of sinks is so of what they took
pub at_sink : {N : Type 0} (put_so_far : N → Option (List ℕ)) (old new : N) (P : Type 0) → (new ≡ old) ⊎ P → (put_so_far new ≡ put_so_far old) ⊎ P
at_sink put_so_far old new P (inl same) = inl (ap put_so_far same)
at_sink put_so_far old new P (inr so) = inr so

pub notes_behind : (MaySay : List ℕ → List ℕ → Type 0) (wo wn eo en : Option (List ℕ)) (text notes : List ℕ) → MaySay text notes → PutsFront eo en notes
    → (en ≡ eo) ⊎ Appends wo wn text → NotesBehind MaySay wo wn eo en
notes_behind MaySay wo wn eo en text notes so put (inl same) = unnoted same
notes_behind MaySay wo wn eo en text notes so put (inr all) = noted text notes so (whole_put wo wn text all) put

-- ---- one permutation, and one free run

module _ (fo fn go gn : Bool) (wo wn eo en : Option (List ℕ)) where
  pub one_begun : (spec : SpecTree) (blocks : Blocks) (entries : List EntryTree) (items : List HistItem) (result : Result Ended RunFault)
      → IsRegular spec blocks entries items → IsWritten spec entries items wo wn eo en fo fn go gn result → Begun (OneSays spec blocks entries) wo wn eo en
  one_begun spec blocks entries items result regular w =
      let one = permutation_says spec entries items in
      let notes = puts_front w.told eo en one.notes w.notes in
      fronts _ _ (of_one items regular) (puts_front w.told wo wn one.text w.text) notes (notes_behind (OneSays spec blocks entries) wo wn eo en one.text one.notes (of_one items regular) notes w.order)

  pub free_begun : (spec : SpecTree) (blocks : Blocks) (items : List HistItem) (result : Result (Unit {0}) RunFault)
      → IsFreeRegular spec blocks items → IsFreeWritten spec items wo wn eo en fo fn go gn result → Begun (FreeSays spec blocks) wo wn eo en
  free_begun spec blocks items result regular w =
      let notes = puts_front w.told eo en (free_says spec items).notes w.notes in
      fronts _ _ (free items regular) (puts_front w.told wo wn (free_text spec items) w.text) notes
      (notes_behind (FreeSays spec blocks) wo wn eo en (free_text spec items) (free_says spec items).notes (free items regular) notes w.order)

pub freely_begun : (bytes : List ℕ) (f : File) (wo wn eo en : Option (List ℕ)) → FileIs bytes (Ok f)
    → Begun (FreeSays f.spec f.blocks) wo wn eo en → Begun (FileSaysFreely bytes) wo wn eo en
freely_begun bytes f wo wn eo en is (none t n) = none t n
freely_begun bytes f wo wn eo en is (fronts text notes so t n (unnoted same)) = fronts text notes (freely f is so) t n (unnoted same)
freely_begun bytes f wo wn eo en is (fronts text notes so t n (noted told said its all_out put)) = fronts text notes (freely f is so) t n (noted told said (freely f is its) all_out put)

-- ---- the permutations of a spec

-- how it ends where none of these may run
record Stays (spec : SpecTree) (blocks : Blocks) (more : List (List EntryTree)) : Type 0 where
  how : Ending
  prints : Prints spec blocks 0 more (only_ends how)

stays : (spec : SpecTree) (blocks : Blocks) (more : List (List EntryTree)) → Stays spec blocks more
unfolding Prints
stays spec blocks [] = record { how = whole; prints = refl }
stays spec blocks (p ∷ ps) = record { how = too_many; prints = refl }

-- how it ends behind a report that ended so, where none of these may run
record Follows (ending : Ending) (Others : Said → Type 0) : Type 0 where
  how : Ending
  goes : GoesOn ending Others (only_ends how)

follows : (ending : Ending) (Others : Said → Type 0) (how : Ending) → Others (only_ends how) → Follows ending Others
follows whole Others how so = record { how = how; goes = so }
follows invalid Others how so = record { how = how; goes = so }
follows (setup_failed text) Others how so = record { how = setup_failed text; goes = refl }
follows setup_waits Others how so = record { how = setup_waits; goes = refl }
follows too_many Others how so = record { how = too_many; goes = refl }

module _ (spec : SpecTree) (blocks : Blocks) (limit : ℕ) (all : List (List EntryTree)) where
  -- what ran is said, where no more run
  so_far_says : (wo wn eo en : Option (List ℕ)) (left : ℕ) (more : List (List EntryTree)) (so : SoFar spec blocks wo wn eo en limit all left more) → RunSays spec blocks limit all (so.text ++ []) (so.notes ++ [])
  so_far_says wo wn eo en left more so =
      let end = stays spec blocks more in
      run (so.done + 0) (behind so.text so.notes (only_ends end.how)) (omega (arith, so.split)) (so.told 0 (only_ends end.how) end.prints)

  -- and with one more
  one_more_says : (wo wm eo em : Option (List ℕ)) (left : ℕ) (more : List (List EntryTree)) (p : List EntryTree) (ps : List (List EntryTree)) (items : List HistItem)
      (so : SoFar spec blocks wo wm eo em limit all left more) → more ≡ p ∷ ps → 0 < left → IsRegular spec blocks p items
      → RunSays spec blocks limit all (so.text ++ ((permutation_says spec p items).text ++ [])) (so.notes ++ ((permutation_says spec p items).notes ++ []))
  one_more_says wo wm eo em left more p ps items so is lt regular =
      let one = permutation_says spec p items in
      let end = stays spec blocks ps in
      let after = follows one.ending (Prints spec blocks 0 ps) end.how end.prints in
      let said = behind one.text one.notes (only_ends after.how) in
      let here : Prints spec blocks 1 more said = subst (λ (ms : List (List EntryTree)). Prints spec blocks 1 ms said) (sym is) (one_more spec blocks 0 p ps items (only_ends after.how) regular after.goes) in
      run (so.done + 1) (behind so.text so.notes said) (omega (arith, so.split, lt)) (so.told 1 said here)

  -- whole reports alone went out
  pub whole_begun : (wo wn eo en : Option (List ℕ)) (left : ℕ) (more : List (List EntryTree))
      → SoFar spec blocks wo wn eo en limit all left more → Begun (RunSays spec blocks limit all) wo wn eo en
  whole_begun wo wn eo en left more so =
      let says = so_far_says wo wn eo en left more so in
      let notes = put_with eo en so.notes [] so.noted in
      fronts _ _ says (put_with wo wn so.text [] so.out) notes (noted _ _ says (whole_nil wo wn so.text (whole_put wo wn so.text so.out)) notes)

  -- and a front of one more
  pub next_begun : (wo wm wn eo em en : Option (List ℕ)) (left : ℕ) (more : List (List EntryTree)) (p : List EntryTree) (ps : List (List EntryTree))
      → SoFar spec blocks wo wm eo em limit all left more → more ≡ p ∷ ps → 0 < left → Begun (OneSays spec blocks p) wm wn em en → Begun (RunSays spec blocks limit all) wo wn eo en
  next_begun wo wm wn eo em en left more p ps so is lt (none t n) =
      let says = so_far_says wo wm eo em left more so in
      let notes = put_still eo em en so.notes so.noted n in
      let all_out : PutsWhole wo wn so.text = subst (λ (w : Option (List ℕ)). PutsWhole wo w so.text) (sym t) (whole_put wo wm so.text so.out) in
      fronts _ _ says (put_still wo wm wn so.text so.out t) notes (noted _ _ says (whole_nil wo wn so.text all_out) notes)
  next_begun wo wm wn eo em en left more p ps so is lt (fronts _ _ (of_one items regular) t n b) =
      let one = permutation_says spec p items in
      fronts _ _ (one_more_says wo wm eo em left more p ps items so is lt regular)
      (front_behind wo wm wn so.text (one.text ++ []) so.out (front_of_piece wm wn one.text [] t)) (front_behind eo em en so.notes (one.notes ++ []) so.noted (front_of_piece em en one.notes [] n))
      (next_behind wo wm wn eo em en left more p ps so is lt one.text t b)
    where
      next_behind : (wo wm wn eo em en : Option (List ℕ)) (left : ℕ) (more : List (List EntryTree)) (p : List EntryTree) (ps : List (List EntryTree))
          → SoFar spec blocks wo wm eo em limit all left more → more ≡ p ∷ ps → 0 < left → (text : List ℕ) → PutsFront wm wn text → NotesBehind (OneSays spec blocks p) wm wn em en
          → NotesBehind (RunSays spec blocks limit all) wo wn eo en
      next_behind wo wm wn eo em en left more p ps so is lt text t (unnoted same) =
          noted _ _ (so_far_says wo wm eo em left more so) (whole_nil wo wn so.text (whole_then wo wm wn so.text t.front so.out t.went_out)) (put_still eo em en so.notes so.noted same)
      next_behind wo wm wn eo em en left more p ps so is lt text t (noted _ _ (of_one items regular) all_out put) =
          let one = permutation_says spec p items in
          noted _ _ (one_more_says wo wm eo em left more p ps items so is lt regular)
          (whole_behind wo wm wn so.text (one.text ++ []) so.out (whole_nil wm wn one.text all_out)) (front_behind eo em en so.notes (one.notes ++ []) so.noted (front_of_piece em en one.notes [] put))

-- ---- a file

-- its first line went out, or a front of it, and none of its permutations ran
line_begun : (bytes : List ℕ) (limit : ℕ) (f : File) (wo wn eo en : Option (List ℕ)) → FileIs bytes (Ok f) → PutsFront wo wn (first_line f.spec) → en ≡ eo → Begun (FileMaySay bytes limit) wo wn eo en
line_begun bytes limit f wo wn eo en is put same =
    let end = stays f.spec f.blocks (permutations_of f.spec) in
    fronts _ _ (of_file 0 (behind (first_line f.spec) [] (only_ends end.how)) (omega arith) (runs f (only_ends end.how) is end.prints))
    (front_of_piece wo wn (first_line f.spec) [] put) (subst (λ (e : Option (List ℕ)). PutsFront eo e []) (sym same) (nothing_put eo [])) (unnoted same)

pub no_line_begun : (bytes : List ℕ) (limit : ℕ) (f : File) (wo wn eo : Option (List ℕ)) (line : List ℕ) → FileIs bytes (Ok f) → line ≡ first_line f.spec → PutsFront wo wn line → Begun (FileMaySay bytes limit) wo wn eo eo
no_line_begun bytes limit f wo wn eo line is same put = line_begun bytes limit f wo wn eo eo is (subst (PutsFront wo wn) same put) refl

-- notes on its permutations come behind its first line
file_behind : (bytes : List ℕ) (limit : ℕ) (f : File) (wo wm wn eo en : Option (List ℕ)) → FileIs bytes (Ok f) → Appends wo wm (first_line f.spec)
    → NotesBehind (RunSays f.spec f.blocks limit (permutations_of f.spec)) wm wn eo en → NotesBehind (FileMaySay bytes limit) wo wn eo en
file_behind bytes limit f wo wm wn eo en is put (unnoted same) = unnoted same
file_behind bytes limit f wo wm wn eo en is put (noted _ _ (run done said within prints) all_out front) =
    noted _ _ (of_file done (behind (first_line f.spec) [] said) within (runs f said is prints)) (whole_behind wo wm wn (first_line f.spec) said.text put all_out) front

-- its first line went out, and what was begun of its permutations
pub file_begun : (bytes : List ℕ) (limit : ℕ) (f : File) (wo wm wn eo en : Option (List ℕ)) (line : List ℕ)
    → FileIs bytes (Ok f) → line ≡ first_line f.spec → Appends wo wm line
    → Begun (RunSays f.spec f.blocks limit (permutations_of f.spec)) wm wn eo en → Begun (FileMaySay bytes limit) wo wn eo en
file_begun bytes limit f wo wm wn eo en line is same put (none t n) =
    line_begun bytes limit f wo wn eo en is (subst (λ (w : Option (List ℕ)). PutsFront wo w (first_line f.spec)) (sym t) (put_whole wo wm (first_line f.spec) (subst (Appends wo wm) same put))) n
file_begun bytes limit f wo wm wn eo en line is same put (fronts _ _ (run done said within prints) t n b) =
    fronts _ _ (of_file done (behind (first_line f.spec) [] said) within (runs f said is prints)) (front_behind wo wm wn (first_line f.spec) said.text (subst (Appends wo wm) same put) t) n
    (file_behind bytes limit f wo wm wn eo en is (subst (Appends wo wm) same put) b)
