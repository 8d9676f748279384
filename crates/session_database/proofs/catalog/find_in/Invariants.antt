use Rattle.std.proofs.Common.{◌≡◌, drop}
use Rattle.sql_trees.specs.Statements.{name_of}
use Rattle.session_machine.specs.Inner.Pieces.{find_from}
use Rattle.session_database.proofs.catalog.find_in.Given as goal

abbrev pub invariant-loop-place : goal.invariant-loop-place
invariant-loop-place g l =
    let content = g.V.Versions.content l.store in
    find_from content l.own l.drops (name_of l.name) l.place (drop l.place l.tables) ≡ find_from content l.own l.drops (name_of l.name) 0 l.tables
