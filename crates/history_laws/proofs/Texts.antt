-- Each file says something.
use Rattle.std.proofs.Common.{refl, ℕ, zero, suc, List, [], ◌∷◌, Result, Ok, Err}
use Rattle.std.specs.Prelude.{Contains}
use Rattle.std.specs.List.{AllByRecursion}
use Rattle.std.proofs.lemmas.List.Elements.{All-weaker, All-contains_itself, recursion_from_All}
use Rattle.session_machine.specs.declared.reply.HistItem.{HistItem}
use Rattle.session_machine.specs.Machine.{Blocks}
use Rattle.spec_parser.specs.Trees.{EntryTree, SpecTree}
use Rattle.permutation_lists.specs.Permutations.{permutations_of}
use Rattle.permutation_plans.specs.Regular.{IsRegular}
use Rattle.report_text.specs.Said.{Said, Ending, whole, invalid, setup_failed, setup_waits, too_many, only_ends, says, ◌>>◌}
use Rattle.report_text.specs.Permutation.{permutation_says}
use Rattle.spec_files.specs.declared.fault.RunFault.{RunFault}
use Rattle.spec_files.specs.FirstLine.{first_line}
use Rattle.spec_files.specs.Files.{File, FileIs}
use Rattle.spec_files.specs.Inner.GoesOn.{GoesOn}
use Rattle.spec_files.specs.Laws.{FilesSayOneThing}
use Rattle.spec_files.specs.Prints.{Prints, FileSays, refused, runs}
use Rattle.history_laws.specs.Laws.{EachHasAHistory, EveryFileIsOneThing, EveryFileHasAText}

abbrev HasHistory : SpecTree → Blocks → List EntryTree → Type 0
HasHistory spec blocks entries = (items : List HistItem) × IsRegular spec blocks entries items

-- what follows a report
follows : (ending : Ending) (Others : Said → Type 0) → (said : Said) × Others said → (rest : Said) × GoesOn ending Others rest
follows whole Others others = others
follows invalid Others others = others
follows (setup_failed text) Others others = (only_ends (setup_failed text), refl)
follows setup_waits Others others = (only_ends setup_waits, refl)
follows too_many Others others = (only_ends too_many, refl)

-- permutations that have histories say something
some_text : (spec : SpecTree) (blocks : Blocks) (limit : ℕ) (ps : List (List EntryTree)) → AllByRecursion (HasHistory spec blocks) ps → (said : Said) × Prints spec blocks limit ps said
unfolding Prints
some_text spec blocks limit [] h = (only_ends whole, refl)
some_text spec blocks zero (p ∷ ps) h = (only_ends too_many, refl)
some_text spec blocks (suc left) (p ∷ ps) h =
    let items = h.0.0 in
    let rest = follows (permutation_says spec p items).ending (Prints spec blocks left ps) (some_text spec blocks left ps h.1) in
    (record (permutation_says spec p items) { ending = whole } >> rest.0, (items, rest.0, h.0.1, rest.1, refl))

each_has : EachHasAHistory → (bytes : List ℕ) (file : File) → FileIs bytes (Ok file) → AllByRecursion (HasHistory file.spec file.blocks) (permutations_of file.spec)
each_has law bytes file is =
    recursion_from_All (HasHistory file.spec file.blocks) (permutations_of file.spec)
    (All-weaker (Contains (permutations_of file.spec)) (HasHistory file.spec file.blocks)
    (λ p there. let one = law bytes file is p there in (one.it, one.is_so)) (permutations_of file.spec) (All-contains_itself (permutations_of file.spec)))

by_file : EachHasAHistory → (bytes : List ℕ) (limit : ℕ) (answer : Result File RunFault) → FileIs bytes answer → (said : Result Said RunFault) × FileSays bytes limit said
by_file law bytes limit (Err e) is = (Err e, refused e is)
by_file law bytes limit (Ok file) is =
    let t = some_text file.spec file.blocks limit (permutations_of file.spec) (each_has law bytes file is) in
    (Ok (says (first_line file.spec) >> t.0), runs file t.0 is t.1)

pub has_text : EachHasAHistory → EveryFileIsOneThing → FilesSayOneThing → EveryFileHasAText
has_text law files one bytes limit =
    let f = files bytes in
    let t = by_file law bytes limit f.it f.is_so in
    record { it = t.0; is_so = t.1; only = λ other says_it. one bytes limit other t.0 says_it t.1 }
