-- To be believed. The lines that are said of a permutation's steps, as bytes.
use Rattle.std.specs.Prelude.{ℕ, List, [], ◌++◌, codes, Option, option_and_then, slice_get, slice_range}
use Rattle.std.specs.Option.{option_map_or}
use Rattle.iso_lexer.specs.Names.{decoded}
use Rattle.spec_parser.specs.Trees.{StepTree, SpecTree}
use Rattle.spec_parser.specs.Numbered.{step_of_entry}
use Rattle.report_lines.specs.declared.history.Line.{Line}
use Rattle.report_lines.specs.declared.history.Line.TheVariants.{AtOnce, Waiting, Completed}
use Rattle.report_lines.specs.History.{PermutationRun, entry_at, seen_before}
use Rattle.report_text.specs.Replies.{replies_text}

-- the replies to an entry's block that are among so many items
abbrev pub entry_replies : PermutationRun → ℕ → ℕ → List ℕ
entry_replies c i seen = replies_text (entry_at c i).session (slice_range c.items (seen_before c i) seen)

abbrev pub step_name : StepTree → List ℕ
step_name s = codes "step " ++ decoded s.name ++ codes ": "

-- the step that the entry of this number names, if it names one
abbrev pub step_at : SpecTree → PermutationRun → ℕ → Option StepTree
step_at spec c i = option_and_then (step_of_entry spec) (slice_get c.entries i)

-- what is said of that step
abbrev pub line_text : SpecTree → PermutationRun → Line → List ℕ
line_text spec c (AtOnce i seen) = option_map_or (λ (s : StepTree). step_name s ++ s.part.sql ++ codes "\n" ++ entry_replies c i seen) (step_at spec c i) []
line_text spec c (Waiting i) = option_map_or (λ (s : StepTree). step_name s ++ s.part.sql ++ codes " <waiting ...>\n") (step_at spec c i) []
line_text spec c (Completed i seen) = option_map_or (λ (s : StepTree). step_name s ++ codes "<... completed>\n" ++ entry_replies c i seen) (step_at spec c i) []

-- ---- for inner clauses and free runs

abbrev pub step_sql : StepTree → List ℕ
step_sql s = step_name s ++ s.part.sql
