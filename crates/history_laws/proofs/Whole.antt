-- What is read of a file is all there, and so each of its permutations has a history.
use Rattle.std.proofs.Common.{refl}
use Rattle.spec_parser.specs.Laws.{SpecsStand, SpecsAreSlices}
use Rattle.permutation_plans.specs.Regular.{EachHasOneHistory}
use Rattle.spec_files.specs.Blocks.{blocks_in}
use Rattle.spec_files.specs.Files.{is_spec}
use Rattle.spec_files.specs.Laws.{FilesAreOneThing}
use Rattle.spec_files.proofs.FileLemmas.{parts_short}
use Rattle.history_laws.specs.Laws.{SpecsHaveTheirBlocks, RegularHistoriesAreThere, EachHasAHistory, EveryFileIsOneThing}
use Rattle.history_laws.proofs.Entries.{KeepsCounts, has_its_steps}
use Rattle.history_laws.proofs.Given.{has_its_blocks}
use Rattle.history_laws.proofs.Files.{some_file}

pub blocks_there : SpecsStand → SpecsAreSlices → KeepsCounts → SpecsHaveTheirBlocks
blocks_there stand slices keeps bytes file (is_spec spec blocks short utf8 reads read) =
    let stands = stand bytes spec reads in (
      has_its_blocks spec blocks stands (parts_short bytes spec (blocks_in spec) (record { short = short; utf8 = utf8; reads = reads; same = refl }) (slices bytes spec reads)) read,
      λ entries there. has_its_steps keeps spec stands entries there,
    )

pub one_each : SpecsHaveTheirBlocks → RegularHistoriesAreThere → EachHasOneHistory → EachHasAHistory
one_each whole regular one bytes file is entries there =
    let w = whole bytes file is in
    let h = regular file.spec file.blocks entries w.0 (w.1 entries there) in
    record { it = h.0; is_so = h.1; only = λ other is_regular. one file.spec entries file.blocks other h.0 is_regular h.1 }

pub one_thing : FilesAreOneThing → EveryFileIsOneThing
one_thing one bytes =
    let f = some_file bytes in
    record { it = f.0; is_so = f.1; only = λ other is. one bytes other f.0 is f.1 }
