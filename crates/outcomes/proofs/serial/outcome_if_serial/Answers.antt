use Rattle.std.proofs.Common.{◌∙◌, map, sym}
use Rattle.std.specs.Prelude.{string_bytes}
use Rattle.std.proofs.lemmas.Bool.{false≢true}
use Rattle.sql_blocks.specs.Blocks.{blocks_of}
use Rattle.spec_parser.specs.Trees.{entry_view, spec_view}
use Rattle.outcomes.proofs.Serially.{not_serial, not_whole}
use Rattle.outcomes.proofs.serial.outcome_if_serial.Goals as goal

pub returns-then-not-are_serial : goal.returns-then-not-are_serial
returns-then-not-are_serial c =
    not_serial (spec_view c.args.spec.now) (blocks_of c.args.blocks.now) (map string_bytes c.args.names.now) (map entry_view c.args.entries.now) c.args.items.now c.requires.regular
    (λ are. false≢true (sym c.if-not-are_serial.true ∙ c.are_serial.ensures.1 are))

pub returns-in_default : goal.returns-in_default
returns-in_default c =
    not_whole (spec_view c.args.spec.now) (blocks_of c.args.blocks.now) (map string_bytes c.args.names.now) (map entry_view c.args.entries.now) c.args.items.now c.requires.regular
    (λ is. c.in_default.not-Whole (c.in_ok-ended.ensures.ending ∙ is))
