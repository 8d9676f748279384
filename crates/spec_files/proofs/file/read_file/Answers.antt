use Rattle.std.proofs.lemmas.Result.{err_from_is_err_and}
use Rattle.std.proofs.Common.{ap, ◌∙◌}
use Rattle.std.specs.Prelude.{map}
use Rattle.spec_parser.specs.Trees.{spec_view}
use Rattle.spec_files.specs.BlockAnswers.{placed_view}
use Rattle.spec_files.proofs.FileLemmas.{spec_file, spec_refused, block_refused, whole_file, parts_short, spec_kind, blocks_kind}
use Rattle.spec_files.proofs.file.read_file.Goals as goal

pub returns-in_err-spec-clause-err : goal.returns-in_err-spec-clause-err
returns-in_err-spec-clause-err c =
    let p = err_from_is_err_and c.from_residual-in_err-spec.result c.from_residual-in_err-spec.ensures.1 in
    rw (p.1) (λ differs. spec_refused c.args.bytes.now c.in_ok-text.text.now c.in_err-spec.field-0.0 p.0 c.in_ok-text.ensures.ok.0 c.in_ok-text.ensures.ok.1 c.in_ok-text.ensures.ok.2 c.in_err-spec.ensures p.2 differs)

pub read_blocks-requires : goal.read_blocks-requires
read_blocks-requires c =
    let file = spec_file c.args.bytes.now c.in_ok-text.text.now (spec_view c.in_ok-spec.spec) (map placed_view c.deref.result.now) c.in_ok-text.ensures.ok.0 c.in_ok-text.ensures.ok.1 c.in_ok-text.ensures.ok.2 c.in_ok-spec.ensures (ap (map placed_view) c.deref.ensures.value ∙ c.in_ok-parts.ensures) in
    parts_short c.args.bytes.now (spec_view c.in_ok-spec.spec) (map placed_view c.deref.result.now) file (c.specs_are_slices.ensures c.args.bytes.now (spec_view c.in_ok-spec.spec) file.reads)

pub returns-clause-ok : goal.returns-clause-ok
returns-clause-ok c = whole_file c.args.bytes.now (spec_view c.in_ok-spec.spec) (map placed_view c.deref.result.now) c.in_ok-blocks.blocks
    (spec_file c.args.bytes.now c.in_ok-text.text.now (spec_view c.in_ok-spec.spec) (map placed_view c.deref.result.now) c.in_ok-text.ensures.ok.0 c.in_ok-text.ensures.ok.1 c.in_ok-text.ensures.ok.2 c.in_ok-spec.ensures (ap (map placed_view) c.deref.ensures.value ∙ c.in_ok-parts.ensures))
    c.in_ok-blocks.ensures

pub returns-in_err-blocks-clause-err : goal.returns-in_err-blocks-clause-err
returns-in_err-blocks-clause-err c =
    let p = err_from_is_err_and c.from_residual-in_err-blocks.result c.from_residual-in_err-blocks.ensures.1 in
    rw (p.1, p.2) (λ differs. block_refused c.args.bytes.now (spec_view c.in_ok-spec.spec) (map placed_view c.deref.result.now) c.in_err-blocks.field-0.0
    (spec_file c.args.bytes.now c.in_ok-text.text.now (spec_view c.in_ok-spec.spec) (map placed_view c.deref.result.now) c.in_ok-text.ensures.ok.0 c.in_ok-text.ensures.ok.1 c.in_ok-text.ensures.ok.2 c.in_ok-spec.ensures (ap (map placed_view) c.deref.ensures.value ∙ c.in_ok-parts.ensures))
    c.in_err-blocks.ensures differs)

pub returns-in_err-spec-clause-kinds : goal.returns-in_err-spec-clause-kinds
returns-in_err-spec-clause-kinds c =
    let p = err_from_is_err_and c.from_residual-in_err-spec.result c.from_residual-in_err-spec.ensures.1 in
    rw (p.1, p.2) (spec_kind c.in_err-spec.field-0.0)

pub returns-in_err-blocks-clause-kinds : goal.returns-in_err-blocks-clause-kinds
returns-in_err-blocks-clause-kinds c =
    let p = err_from_is_err_and c.from_residual-in_err-blocks.result c.from_residual-in_err-blocks.ensures.1 in
    rw (p.1, p.2) (blocks_kind (map placed_view c.deref.result.now) c.in_err-blocks.field-0.0 c.in_err-blocks.ensures)
