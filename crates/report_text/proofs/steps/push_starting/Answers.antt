use Rattle.std.proofs.Common.{◌≡◌, ℕ, List, [], ◌∷◌, ◌++◌, refl, ap, ◌∙◌}
use Rattle.std.specs.List.{cons_option}
use Rattle.std.specs.Prelude.{map, flat_map, filter_map, codes, Option, Some, None}
use Rattle.std.specs.Option.{option_map_or}
use Rattle.iso_lexer.specs.Devices.{page_text}
use Rattle.iso_lexer.specs.Names.{decoded}
use Rattle.spec_parser.specs.Trees.{StepTree, EntryTree, SpecTree, entry_view, spec_view}
use Rattle.spec_parser.specs.Numbered.{step_of_entry}
use Rattle.report_text.specs.Steps.{starting_text}
use Rattle.report_text.specs.Inner.Steps.{entry_name}
use Rattle.report_text.proofs.Pushing.{pushed3}
use Rattle.report_text.proofs.steps.push_starting.Goals as goal

one_more : (name : StepTree → List ℕ) (o : Option StepTree) (steps : List StepTree) → option_map_or name o [] ++ flat_map name steps ≡ flat_map name (cons_option o steps)
one_more name None steps = refl
one_more name (Some s) steps = refl

-- an entry that names no step has no name
names_are : (spec : SpecTree) (entries : List EntryTree) → flat_map (entry_name spec) entries ≡ flat_map (λ (s : StepTree). codes " " ++ decoded s.name) (filter_map (step_of_entry spec) entries)
names_are spec [] = refl
names_are spec (e ∷ es) =
    let name : StepTree → List ℕ = λ s. codes " " ++ decoded s.name in
    ap (λ l. entry_name spec e ++ l) (names_are spec es) ∙ one_more name (step_of_entry spec e) (filter_map (step_of_entry spec) es)

pub returns : goal.returns
unfolding starting_text
returns c =
    let names = names_are (spec_view c.args.spec.now) (map entry_view c.args.entries.now) in
    pushed3 _ _ _ _ _ _ _ _ c.in_ok-push.ensures.bytes (c.in_ok-push_entry_names.ensures.text ∙ ap (λ l. page_text c.push.new.self ++ l) names) c.push-2.ensures.bytes
