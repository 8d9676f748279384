-- To be believed. Trees of statements, without where they lie in memory: names stand decoded.
use Rattle.std.specs.Prelude.{ℕ, Bool, List, ◌∷◌, ◌++◌, codes, map, Option, option_map, if◌then◌else◌}
use Rattle.std.specs.List.{concat}
use Rattle.std.specs.Global.{Vec}
use Rattle.iso_lexer.specs.declared.name.Name.{Name}
use Rattle.iso_lexer.specs.Names.{name_view, decoded}
use Rattle.sql_trees.specs.declared.kind.Kind.{Kind}
use Rattle.sql_trees.specs.declared.kind.Dir.{Dir}
use Rattle.sql_trees.specs.declared.expr.Expr.{Expr}
use Rattle.sql_trees.specs.declared.stmt.Level.{Level}
use Rattle.sql_trees.specs.declared.stmt.Lock.{Lock}
use Rattle.sql_trees.specs.declared.stmt.Column.{Column}
use Rattle.sql_trees.specs.declared.stmt.Key.{Key}
use Rattle.sql_trees.specs.declared.stmt.CreateTable.{CreateTable}
use Rattle.sql_trees.specs.declared.stmt.DropTable.{DropTable}
use Rattle.sql_trees.specs.declared.stmt.Insert.{Insert}
use Rattle.sql_trees.specs.declared.stmt.Update.{Update}
use Rattle.sql_trees.specs.declared.stmt.Delete.{Delete}
use Rattle.sql_trees.specs.declared.stmt.Item.{Item}
use Rattle.sql_trees.specs.declared.stmt.Item.TheVariants as item
use Rattle.sql_trees.specs.declared.stmt.OrderKey.{OrderKey}
use Rattle.sql_trees.specs.declared.stmt.Select.{Select}
use Rattle.sql_trees.specs.declared.stmt.Stmt.{Stmt}
use Rattle.sql_trees.specs.declared.stmt.Stmt.TheVariants as stmt
use Rattle.sql_trees.specs.Trees.{Tree, AggTree, tree_of, agg_of}

-- the bytes that a name stands for
abbrev pub name_of : Name → List ℕ
name_of n = decoded (name_view n)

-- the name that a key over these columns is given: the table's, and each column's behind an underscore
abbrev pub key_name : List ℕ → Bool → List (List ℕ) → List ℕ
key_name table primary columns = table ++ (if primary then codes "_pkey" else concat (map (λ n. 95 ∷ n) columns) ++ codes "_key")

pub record ColumnTree : Type 0 where
  pub name : List ℕ
  pub kind : Kind
  pub not_null : Bool

pub record KeyTree : Type 0 where
  pub primary : Bool
  pub columns : List ℕ

pub record CreateTree : Type 0 where
  pub name : List ℕ
  pub columns : List ColumnTree
  pub keys : List KeyTree

pub record DropTree : Type 0 where
  pub if_exists : Bool
  pub names : List (List ℕ)

-- an item of a SELECT or of RETURNING, with the name given to it
pub data ItemTree : Type 0 where
  All : ItemTree
  Value : Tree → Option (List ℕ) → ItemTree
  Aggregate : AggTree → Option (List ℕ) → ItemTree

-- do_nothing says ON CONFLICT DO NOTHING
pub record InsertTree : Type 0 where
  pub table : List ℕ
  pub columns : Option (List (List ℕ))
  pub rows : List (List Tree)
  pub do_nothing : Bool
  pub returning : Option (List ItemTree)

pub record SetTree : Type 0 where
  pub column : List ℕ
  pub value : Tree

pub record UpdateTree : Type 0 where
  pub table : List ℕ
  pub sets : List SetTree
  pub filter : Option Tree
  pub returning : Option (List ItemTree)

pub record DeleteTree : Type 0 where
  pub table : List ℕ
  pub filter : Option Tree
  pub returning : Option (List ItemTree)

pub record OrderTree : Type 0 where
  pub expr : Tree
  pub dir : Dir

pub record SelectTree : Type 0 where
  pub items : List ItemTree
  pub table : Option (List ℕ)
  pub filter : Option Tree
  pub order : List OrderTree
  pub lock : Option Lock

-- a statement
pub data StmtTree : Type 0 where
  Begin : Option Level → StmtTree
  Commit : StmtTree
  Rollback : StmtTree
  SetTransaction : Level → StmtTree
  SetDeadlockTimeout : StmtTree
  Create : CreateTree → StmtTree
  DropTables : DropTree → StmtTree
  Inserts : InsertTree → StmtTree
  Updates : UpdateTree → StmtTree
  Deletes : DeleteTree → StmtTree
  Selects : SelectTree → StmtTree

abbrev pub column_of : Column → ColumnTree
column_of c = record { name = name_of c.name; kind = c.kind; not_null = c.not_null }

abbrev pub key_of : Key → KeyTree
key_of k = record { primary = k.primary; columns = k.columns.items }

abbrev pub create_of : CreateTable → CreateTree
create_of c = record { name = name_of c.name; columns = map column_of c.columns.items; keys = map key_of c.keys.items }

abbrev pub drop_of : DropTable → DropTree
drop_of d = record { if_exists = d.if_exists; names = map name_of d.names.items }

abbrev pub names_of : Vec Name → List (List ℕ)
names_of ns = map name_of ns.items

abbrev pub exprs_of : Vec Expr → List Tree
exprs_of es = map tree_of es.items

abbrev pub item_of : Item → ItemTree
item_of item.All = All
item_of (item.Expr e alias) = Value (tree_of e) (option_map name_of alias)
item_of (item.Agg a alias) = Aggregate (agg_of a) (option_map name_of alias)

abbrev pub items_of : Vec Item → List ItemTree
items_of is = map item_of is.items

abbrev pub insert_of : Insert → InsertTree
insert_of i = record {
  table = name_of i.table;
  columns = option_map names_of i.columns;
  rows = map exprs_of i.rows.items;
  do_nothing = i.do_nothing;
  returning = option_map items_of i.returning;
}

abbrev pub set_of : Name × Expr → SetTree
set_of s = record { column = name_of s.0; value = tree_of s.1 }

abbrev pub update_of : Update → UpdateTree
update_of u = record { table = name_of u.table; sets = map set_of u.sets.items; filter = option_map tree_of u.filter; returning = option_map items_of u.returning }

abbrev pub delete_of : Delete → DeleteTree
delete_of d = record { table = name_of d.table; filter = option_map tree_of d.filter; returning = option_map items_of d.returning }

abbrev pub order_of : OrderKey → OrderTree
order_of k = record { expr = tree_of k.expr; dir = k.dir }

abbrev pub select_of : Select → SelectTree
select_of s = record {
  items = map item_of s.items.items;
  table = option_map name_of s.table;
  filter = option_map tree_of s.filter;
  order = map order_of s.order.items;
  lock = s.lock;
}

abbrev pub stmt_of : Stmt → StmtTree
stmt_of (stmt.Begin level) = Begin level
stmt_of stmt.Commit = Commit
stmt_of stmt.Rollback = Rollback
stmt_of (stmt.SetTransaction level) = SetTransaction level
stmt_of stmt.SetDeadlockTimeout = SetDeadlockTimeout
stmt_of (stmt.CreateTable c) = Create (create_of c)
stmt_of (stmt.DropTable d) = DropTables (drop_of d)
stmt_of (stmt.Insert i) = Inserts (insert_of i)
stmt_of (stmt.Update u) = Updates (update_of u)
stmt_of (stmt.Delete d) = Deletes (delete_of d)
stmt_of (stmt.Select s) = Selects (select_of s)
