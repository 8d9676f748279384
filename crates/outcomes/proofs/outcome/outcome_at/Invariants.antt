use Rattle.std.proofs.Common.{◌≡◌, ◌++◌, map, drop}
use Rattle.std.specs.Prelude.{Ok, string_bytes}
use Rattle.spec_parser.specs.Trees.{spec_view}
use Rattle.session_machine.specs.Engine.{visible_in}
use Rattle.outcome_counts.specs.Outcomes.{answers_of, answers_told}
use Rattle.outcomes.specs.Tables.{tables_view}
use Rattle.outcomes.proofs.outcome.outcome_at.Given as goal

abbrev pub invariant-loop-name : goal.invariant-loop-name
invariant-loop-name l = record {
  answers : answers_told l.outcome ≡ answers_of (spec_view l.spec) l.items;
  tables : map (visible_in l.engine.machine 0) (map string_bytes l.names)
      ≡ map Ok (tables_view l.outcome.tables.items) ++ map (visible_in l.engine.machine 0) (map string_bytes (drop l.name-index l.names));
}
