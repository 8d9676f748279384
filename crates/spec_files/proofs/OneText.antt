-- What a file says is one thing.
use Rattle.std.proofs.Common.{◌≡◌, ℕ, zero, suc, List, [], ◌∷◌, Result, Ok, Err, sym, ap, subst, ◌∙◌}
use Rattle.session_machine.specs.declared.reply.HistItem.{HistItem}
use Rattle.session_machine.specs.Machine.{Blocks}
use Rattle.spec_parser.specs.Trees.{EntryTree, SpecTree}
use Rattle.permutation_lists.specs.Permutations.{permutations_of}
use Rattle.permutation_plans.specs.Regular.{EachHasOneHistory}
use Rattle.report_text.specs.Said.{Said, Ending, whole, invalid, setup_failed, setup_waits, too_many}
use Rattle.report_text.specs.Permutation.{permutation_says}
use Rattle.spec_files.specs.declared.fault.RunFault.{RunFault}
use Rattle.spec_files.specs.FirstLine.{first_line}
use Rattle.spec_files.specs.Files.{File}
use Rattle.spec_files.specs.Inner.GoesOn.{GoesOn}
use Rattle.spec_files.specs.Prints.{Prints, FileSays, refused, runs}
use Rattle.spec_files.specs.Laws.{FilesAreOneThing}
use Rattle.spec_files.proofs.Listing.{behind}
use Rattle.spec_files.proofs.OneFile.{err_ok, err_is, file_is}

-- what follows a report is one thing where what the others say is
one_goes : (ending : Ending) (Others : Said → Type 0) (x y : Said) → ((a b : Said) → Others a → Others b → a ≡ b) → GoesOn ending Others x → GoesOn ending Others y → x ≡ y
one_goes whole Others x y one h k = one x y h k
one_goes invalid Others x y one h k = one x y h k
one_goes (setup_failed text) Others x y one h k = h ∙ sym k
one_goes setup_waits Others x y one h k = h ∙ sym k
one_goes too_many Others x y one h k = h ∙ sym k

one_prints : EachHasOneHistory → (spec : SpecTree) (blocks : Blocks) (limit : ℕ) (ps : List (List EntryTree)) (x y : Said) → Prints spec blocks limit ps x → Prints spec blocks limit ps y → x ≡ y
unfolding Prints
one_prints one spec blocks limit [] x y h k = h ∙ sym k
one_prints one spec blocks zero (p ∷ ps) x y h k = h ∙ sym k
one_prints one spec blocks (suc left) (p ∷ ps) x y h k =
    let same : h.0 ≡ k.0 = one spec p blocks h.0 k.0 h.2 k.2 in
    let goes : GoesOn (permutation_says spec p h.0).ending (Prints spec blocks left ps) k.1 =
    subst (λ (is : List HistItem). GoesOn (permutation_says spec p is).ending (Prints spec blocks left ps) k.1) (sym same) k.3 in
    let rests : h.1 ≡ k.1 = one_goes (permutation_says spec p h.0).ending (Prints spec blocks left ps) h.1 k.1 (one_prints one spec blocks left ps) h.3 goes in
    h.4 ∙ ap (behind (permutation_says spec p h.0).text (permutation_says spec p h.0).notes) rests
    ∙ ap (λ (is : List HistItem). behind (permutation_says spec p is).text (permutation_says spec p is).notes k.1) same ∙ sym k.4

pub one_text : EachHasOneHistory → FilesAreOneThing → (bytes : List ℕ) (limit : ℕ) (x y : Result Said RunFault) → FileSays bytes limit x → FileSays bytes limit y → x ≡ y
one_text each one bytes limit x y (refused e h) (refused f k) = ap Err (err_is e f (one bytes (Err e) (Err f) h k))
one_text each one bytes limit x y (refused e h) (runs b s k p) = absurd (err_ok e b (one bytes (Err e) (Ok b) h k))
one_text each one bytes limit x y (runs a r h q) (refused f k) = absurd (err_ok f a (one bytes (Err f) (Ok a) k h))
one_text each one bytes limit x y (runs a r h q) (runs b s k p) =
    let same : a ≡ b = file_is a b (one bytes (Ok a) (Ok b) h k) in
    let there : Prints a.spec a.blocks limit (permutations_of a.spec) s = subst (λ (f : File). Prints f.spec f.blocks limit (permutations_of f.spec) s) (sym same) p in
    ap (λ (t : Said). Ok (behind (first_line a.spec) [] t)) (one_prints each a.spec a.blocks limit (permutations_of a.spec) r s q there)
    ∙ ap (λ (f : File). Ok (behind (first_line f.spec) [] s)) same
