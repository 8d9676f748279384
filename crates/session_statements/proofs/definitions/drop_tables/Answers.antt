use Rattle.std.proofs.Common.{rules, ◌≡◌, ◌∙◌, map}
use Rattle.sql_trees.specs.Statements.{name_of}
use Rattle.session_machine.specs.Inner.Pieces.{DroppedUpTo, drop_ended, dropped}
use Rattle.session_machine.proofs.Piecewise.{drops_by}
use Rattle.session_statements.specs.Inner.Left.{left}
use Rattle.session_statements.proofs.definitions.drop_tables.Goals as goal

pub returns-in-Some-clause-did : goal.returns-in-Some-clause-did
returns-in-Some-clause-did g c =
    let names = map name_of c.args.stmt.now.names.items in
    let e : DroppedUpTo = dropped c.args.db.now c.args.by.now c.args.stmt.now.if_exists names in
    let ends : drop_ended c.args.db.now.content c.args.by.now e.db e.missing ≡ left c.fail.new.db c.fail.result = search rules in
    drops_by c.args.db.now c.args.by.now c.args.stmt.now.if_exists names ∙ ends

pub returns-in-None-clause-did : goal.returns-in-None-clause-did
returns-in-None-clause-did g c =
    let names = map name_of c.args.stmt.now.names.items in
    let e : DroppedUpTo = dropped c.args.db.now c.args.by.now c.args.stmt.now.if_exists names in
    let ends : drop_ended c.args.db.now.content c.args.by.now e.db e.missing ≡ left c.drop_all.new.db c.turned.result = search rules in
    drops_by c.args.db.now c.args.by.now c.args.stmt.now.if_exists names ∙ ends
