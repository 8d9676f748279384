use Rattle.std.proofs.Common.{◌++◌, ◌∙◌, List, map, flat_map, option_map, option_to_list, ap, sym}
use Rattle.std.proofs.lemmas.List.{map-append}
use Rattle.spec_parser.specs.Trees.{part_view, session_view, spec_view}
use Rattle.spec_parser.specs.Stands.{session_parts}
use Rattle.sql_blocks.specs.declared.block.Role.TheVariants.{Main, Session}
use Rattle.spec_files.specs.Blocks.{BlockWithRole}
use Rattle.spec_files.specs.BlockAnswers.{block_as}
use Rattle.spec_files.proofs.blocks.blocks_in.Goals as goal

pub returns : goal.returns
returns c =
    let spec = spec_view c.args.spec.now in
    let last : List BlockWithRole = map (block_as Main) (option_to_list (option_map part_view c.args.spec.now.teardown)) in
    let own : List BlockWithRole = map (block_as Session) (flat_map session_parts (map session_view c.deref-2.result.now)) in
    c.in_ok-add_sessions.ensures
    ∙ ap (λ (l : List BlockWithRole). l ++ own) (c.in_ok-add_if.ensures ∙ ap (λ (l : List BlockWithRole). l ++ last) c.in_ok-add_mains.ensures)
    ∙ rw (c.new-parts.ensures.items, c.deref.ensures.value, c.deref-2.ensures.value)
    (ap (λ (l : List BlockWithRole). l ++ map (block_as Session) (flat_map session_parts spec.sessions)) (sym (map-append (block_as Main) spec.setups (option_to_list spec.teardown))))
