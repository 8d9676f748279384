use Rattle.spec_parser.proofs.Exact.{reads_are_specs}
use Rattle.spec_parser.proofs.Standing.{specs_lie}
use Rattle.spec_parser.proofs.laws.specs_are_slices.Goals as goal

pub returns : goal.returns
returns c = λ text s h.
    let spec = reads_are_specs text s h in
    specs_lie text s spec (c.tokens_are_slices.ensures text spec.tokens spec.lexes)
