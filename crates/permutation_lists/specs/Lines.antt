-- The line that lists a permutation: its steps' names in quotes, each with its markers.
use Rattle.std.specs.Prelude.{ℕ, ◌==◌, List, [], ◌∷◌, ◌++◌, codes, flat_map, Option, Some, None, if◌then◌else◌}
use Rattle.iso_lexer.specs.Names.{Written, decoded}
use Rattle.spec_parser.specs.declared.tree.Marker.{Marker}
use Rattle.spec_parser.specs.declared.tree.Marker.TheVariants.{Star, Step as Named}
use Rattle.spec_parser.specs.Trees.{StepTree, EntryTree, SpecTree}
use Rattle.spec_parser.specs.Numbered.{step_numbered, step_of_entry}

abbrev pub doubled : ℕ → List ℕ
doubled b = if b == 34 then 34 ∷ 34 ∷ [] else b ∷ []

-- a name in quotes, of which each quote in it is doubled
abbrev pub quoted : Written → List ℕ
quoted name = 34 ∷ flat_map doubled (decoded name) ++ 34 ∷ []

abbrev pub quoted_step : Option StepTree → List ℕ
quoted_step None = []
quoted_step (Some s) = quoted s.name

abbrev pub marker_text : SpecTree → Marker → List ℕ
marker_text spec Star = codes "*"
marker_text spec (Named session step) = quoted_step (step_numbered spec session step)

-- more markers, each behind a comma
abbrev pub more_marker : SpecTree → Marker → List ℕ
more_marker spec m = codes ", " ++ marker_text spec m

-- the markers in parentheses, nothing where there are none
abbrev pub markers_text : SpecTree → List Marker → List ℕ
markers_text spec [] = []
markers_text spec (m ∷ ms) = codes "(" ++ marker_text spec m ++ flat_map (more_marker spec) ms ++ codes ")"

abbrev pub entry_text : SpecTree → EntryTree → List ℕ
entry_text spec e = codes " " ++ quoted_step (step_of_entry spec e) ++ markers_text spec e.markers

unfoldable pub line_text : SpecTree → List EntryTree → List ℕ
line_text spec entries = codes "permutation" ++ flat_map (entry_text spec) entries ++ 10 ∷ []
