use Rattle.std.proofs.Common.{rules, ◌≡◌, ◌∙◌, sym}
use Rattle.sql_trees.specs.Statements.{name_of}
use Rattle.session_machine.specs.Tables.{Database}
use Rattle.session_machine.specs.Inner.Pieces.{find_from}
use Rattle.session_machine.proofs.Piecewise.{finds_by}
use Rattle.session_database.proofs.database.Database.find_table.Goals as goal

pub returns-clause-first : goal.returns-clause-first
returns-clause-first g c =
    let db : Database = c.args.self.now in
    let found : c.find.result ≡ find_from db.content c.args.own db.catalog.drops (name_of c.args.name.now) 0 db.catalog.tables = search rules in
    found ∙ sym (finds_by db c.args.own (name_of c.args.name.now))
