-- To be believed. What a permutation's report says, piece by piece, and the run of a file's permutations.
use Rattle.std.specs.Prelude.{ℕ, List, [], ◌++◌}

-- how a report or a run ends: after all that it has to say; where the permutation is found invalid; at a setup that fails, with its text; at one that waits; where one more
-- permutation is there than may run
pub data Ending : Type 0 where
  whole : Ending
  invalid : Ending
  setup_failed : List ℕ → Ending
  setup_waits : Ending
  too_many : Ending

-- what goes to the output, what goes to the notes, and how it ends
pub record Said : Type 0 where
  pub text : List ℕ
  pub notes : List ℕ
  pub ending : Ending

-- nothing is said, and so it ends
abbrev pub only_ends : Ending → Said
only_ends ending = record { text = []; notes = []; ending = ending }

abbrev pub says : List ℕ → Said
says text = record { text = text; notes = []; ending = whole }

-- one thing and then another, unless the first ends the report
infixr 10 ◌>>◌
abbrev pub ◌>>◌ : Said → Said → Said
a >> b = elim a.ending [ whole ↦ record { text = a.text ++ b.text; notes = a.notes ++ b.notes; ending = b.ending } | _ ↦ a ]
