-- What comes of the permutations of a spec, and that each is counted once.
use Rattle.std.specs.Prelude.{◌≡◌, ℕ, List, [], ◌∷◌, length}
use Rattle.session_machine.specs.declared.reply.HistItem.{HistItem}
use Rattle.session_machine.specs.Machine.{Blocks}
use Rattle.spec_parser.specs.Trees.{EntryTree, SpecTree}
use Rattle.permutation_plans.specs.Regular.{IsRegular}
use Rattle.permutation_lists.specs.Permutations.{permutations_of}
use Rattle.outcome_counts.specs.Outcomes.{answers_of, answers_told}
use Rattle.outcome_counts.specs.Counts.{Fate, blocked, waiting, whole, Counts, IsCounted}
use Rattle.outcome_counts.specs.declared.ending.Ending.TheVariants.{Whole, Blocked, Waits}
use Rattle.outcome_counts.specs.Endings.{ending_in, front_of}
use Rattle.outcomes.specs.Tables.{Shown, tables_view}

-- that comes of a permutation that has this history, where the tables of these names are looked at
abbrev pub IsFate : SpecTree → Blocks → List (List ℕ) → List EntryTree → List HistItem → Fate → Type 0
IsFate spec blocks names entries items blocked = ending_in spec entries items ≡ Blocked
IsFate spec blocks names entries items waiting = ending_in spec entries items ≡ Waits
IsFate spec blocks names entries items (whole o) =
    (ending_in spec entries items ≡ Whole) × (answers_told o ≡ answers_of spec items)
    × Shown blocks (length spec.sessions) (front_of spec entries items) names (tables_view o.tables.items)

-- that comes of a permutation: of its history, of which it has one
pub record ComesTo (spec : SpecTree) (blocks : Blocks) (names : List (List ℕ)) (entries : List EntryTree) (fate : Fate) : Type 0 where
  pub items : List HistItem
  pub regular : IsRegular spec blocks entries items
  pub is : IsFate spec blocks names entries items fate

-- that comes of permutations, one after the other
abbrev pub AllComeTo : SpecTree → Blocks → List (List ℕ) → List (List EntryTree) → List Fate → Type 0
AllComeTo spec blocks names [] [] = Unit {0}
AllComeTo spec blocks names (entries ∷ more) (fate ∷ fates) = ComesTo spec blocks names entries fate × AllComeTo spec blocks names more fates
AllComeTo spec blocks names some fates = ⊥

-- all permutations of the spec are counted, each once, where what came of it belongs
pub record AllCounted (spec : SpecTree) (blocks : Blocks) (names : List (List ℕ)) (number : ℕ) (c : Counts) : Type 0 where
  pub fates : List Fate
  pub each : AllComeTo spec blocks names (permutations_of spec) fates
  pub counted : IsCounted fates c
  pub all : number ≡ length (permutations_of spec)
