use Rattle.std.proofs.Common.{◌≡◌, ◌∙◌, ℕ, List, ap, sym}
use Rattle.std.specs.Prelude.{Some, option_map}
use Rattle.sql_trees.specs.Statements.{name_of}
use Rattle.sql_values.specs.declared.value.Value.{Value}
use Rattle.session_machine.specs.declared.session.Session.{Session}
use Rattle.session_machine.specs.Tables.{Database, find_table}
use Rattle.session_machine.specs.Transactions.{own_of, view_now}
use Rattle.session_machine.specs.Views.{rows_shown}
use Rattle.session_machine.specs.Machine.{visible_to}
use Rattle.session_database.proofs.Erring.{on_any_err}
use Rattle.session_database.proofs.database.Database.visible.Goals as goal

-- where the name means a table its rows are visible
shows : (db : Database) (s : Session) (name : List ℕ) (k : ℕ) → find_table db (own_of s.transaction) name ≡ Some k → (rows : List (List Value)) × (visible_to db s name ≡ Some rows)
shows db s name k found =
    let shown = rows_shown db.content (view_now db.content s.transaction s.statement) in
    (shown k, ap (option_map shown) found)

pub returns-in_err-seen-clause-memory : goal.returns-in_err-seen-clause-memory
returns-in_err-seen-clause-memory g c =
    let db = c.args.self.now in
    let name = name_of c.args.name.now in
    let found = ap (λ own. find_table db own name) (sym c.own_of.ensures) ∙ sym c.find_table.ensures.first ∙ c.in-Some.is in
    on_any_err c.from_residual.result (shows db c.args.session.now name c.in-Some.place found)

pub returns-in_err-rows-clause-memory : goal.returns-in_err-rows-clause-memory
returns-in_err-rows-clause-memory g c =
    let db = c.args.self.now in
    let name = name_of c.args.name.now in
    let found = ap (λ own. find_table db own name) (sym c.own_of.ensures) ∙ sym c.find_table.ensures.first ∙ c.in-Some.is in
    on_any_err c.from_residual-in_err-rows.result (shows db c.args.session.now name c.in-Some.place found)

pub returns-in_err-copied_rows-clause-memory : goal.returns-in_err-copied_rows-clause-memory
returns-in_err-copied_rows-clause-memory g c =
    let db = c.args.self.now in
    let name = name_of c.args.name.now in
    let found = ap (λ own. find_table db own name) (sym c.own_of.ensures) ∙ sym c.find_table.ensures.first ∙ c.in-Some.is in
    on_any_err c.from_residual-in_err-copied_rows.result (shows db c.args.session.now name c.in-Some.place found)
