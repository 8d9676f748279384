use Rattle.std.proofs.Common.{List, [], ap}
use Rattle.spec_parser.specs.Trees.{EntryTree}
use Rattle.permutation_lists.proofs.EntriesOf.{lines_there, no_lines}
use Rattle.permutation_lists.proofs.permutations.Permutations.of.Goals as goal

pub returns-clause-permutations : goal.returns-clause-permutations
returns-clause-permutations c = ap (λ (more : List (List EntryTree)). record { here = []; more = more }) (lines_there c.args.spec.now c.as_slice-lines.result.now c.as_slice-lines.ensures.value c.if-is_empty.ensures)

pub returns-then-is_empty-clause-permutations : goal.returns-then-is_empty-clause-permutations
returns-then-is_empty-clause-permutations c =
    let none = no_lines c.args.spec.now c.as_slice-lines.result.now c.as_slice-lines.ensures.value c.if-is_empty.ensures in
    rw (← none) c.all.ensures
