use Rattle.std.proofs.Common.{◌≡◌, [], true, map, None, Ok, sym, ap, rules}
use Rattle.sql_trees.specs.Statements.{name_of, column_of, key_of}
use Rattle.sql_blocks.specs.Parts.{column_names}
use Rattle.sql_parser.specs.Inner.Pieces.{resolved_keys}
use Rattle.sql_parser.specs.Inner.Tables.{keys_fault, declared, finished}
use Rattle.sql_parser.proofs.Created.{created_is}
use Rattle.sql_parser.specs.Tables.{completed}
use Rattle.sql_parser.specs.Code.Views.{key_text_of, table_text_of}
use Rattle.sql_parser.proofs.table_keys.finished.Goals as goal

pub returns : goal.returns
unfolding finished
returns c =
    let none : keys_fault (name_of c.args.name) (column_names (map column_of c.args.table.now.columns.items)) [] (map key_text_of c.args.table.now.keys.items) ≡ None = search rules in
    let first : map key_of c.in_ok-all.all.items ≡ resolved_keys true (column_names (map column_of c.args.table.now.columns.items)) (map key_text_of c.args.table.now.keys.items) = search rules in
    let keys : map key_of c.in_ok-all-2.all.items ≡ declared (column_names (map column_of c.args.table.now.columns.items)) (map key_text_of c.args.table.now.keys.items) = search rules in
    let columns : map column_of c.in_ok-columns.columns.items ≡ map (completed (map key_text_of c.args.table.now.keys.items)) (map column_of c.args.table.now.columns.items) = search rules in
    rw (none, keys, columns) (ap Ok (sym (created_is (name_of c.args.name) (table_text_of c.args.table.now))))
