use Rattle.std.proofs.Common.{◌≡◌, ◌++◌, map, drop, string_bytes}
use Rattle.std.specs.Prelude.{flat_map}
use Rattle.sql_blocks.specs.Blocks.{blocks_of}
use Rattle.session_machine.specs.Machine.{stmts_of}
use Rattle.spec_parser.specs.Trees.{part_view, spec_view, PartTree}
use Rattle.outcome_counts.specs.Tables.{made_by, tables_made}
use Rattle.outcome_counts.proofs.tables.tables_made.Given as goal

abbrev pub invariant-loop-part : goal.invariant-loop-part
invariant-loop-part l =
    map string_bytes l.names.items ++ flat_map (λ (setup : PartTree). flat_map made_by (stmts_of (blocks_of l.blocks) setup.block)) (map part_view (drop l.part-index l.spec.setups.items))
    ≡ tables_made (spec_view l.spec) (blocks_of l.blocks)
