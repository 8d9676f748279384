-- What was read so far of a statement, without where it lies in memory.
use Rattle.std.specs.Prelude.{map}
use Rattle.sql_trees.specs.Statements.{name_of, exprs_of, column_of}
use Rattle.sql_parser.specs.declared.names.RowList.{RowList}
use Rattle.sql_parser.specs.declared.table.PlacedName.{PlacedName}
use Rattle.sql_parser.specs.declared.table.KeyText.{KeyText}
use Rattle.sql_parser.specs.declared.table.TableText.{TableText}
use Rattle.sql_parser.specs.Grammar.{Rows}
use Rattle.sql_parser.specs.Tables.{Placed, KeyRead, TableRead}

abbrev pub rows_view : RowList → Rows
rows_view r = record { rows = map exprs_of r.rows.items; width = r.width }

abbrev pub placed_of : PlacedName → Placed
placed_of n = record { name = name_of n.name; place = n.place }

abbrev pub key_text_of : KeyText → KeyRead
key_text_of k = record { primary = k.primary; columns = map placed_of k.columns.items }

abbrev pub table_text_of : TableText → TableRead
table_text_of t = record { columns = map column_of t.columns.items; keys = map key_text_of t.keys.items }
