use Rattle.std.proofs.Common.{◌≡◌, map, drop}
use Rattle.sql_trees.specs.Statements.{name_of}
use Rattle.session_machine.specs.Inner.Pieces.{dropped}
use Rattle.session_statements.proofs.Dropping.{HasReached}
use Rattle.session_statements.proofs.definitions.drop_all.Given as goal

abbrev pub invariant-loop-name : goal.invariant-loop-name
invariant-loop-name g l = record {
  rest : dropped l.db l.by l.if_exists (map name_of (drop l.name-index l.names)) ≡ dropped l.fn.db l.by l.if_exists (map name_of l.names);
  content : l.db.content ≡ l.fn.db.content;
  reached : HasReached l.fn.db l.by l.if_exists (map name_of l.names) (map name_of (drop l.name-index l.names)) l.db;
}
