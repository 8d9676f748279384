-- To be believed. What is asked of one target row.
use Rattle.std.specs.Prelude.{◌≡◌, List, Option, Some, length, option_map}
use Rattle.sql_trees.specs.declared.stmt.Level.{Level}
use Rattle.sql_trees.specs.Trees.{Tree, tree_of}
use Rattle.sql_values.specs.declared.value.Value.{Value}
use Rattle.sql_values.specs.Expressions.{Cols}
use Rattle.row_versions.specs.declared.names.TxId.{TxId}
use Rattle.row_versions.specs.declared.write.Seen.{Seen}
use Rattle.row_versions.specs.Log.{Content, values_at}
use Rattle.row_versions.specs.Newest.{newest_of}
use Rattle.sql_trees.specs.declared.stmt.Strength.{Strength}
use Rattle.sql_trees.specs.declared.stmt.Policy.{Policy}
use Rattle.update_recheck.specs.declared.ask.Ask.{Ask}

-- one target: who asks, at which level, the version that its view shows, how strongly the row is wanted, what is done where others hold it, WHERE, and the table's columns
pub record Asked : Type 0 where
  pub tx : TxId
  pub level : Level
  pub seen : Seen
  pub strength : Strength
  pub policy : Policy
  pub condition : Option Tree
  pub cols : Cols

-- what an ask says, its condition as a tree
abbrev pub asked : Ask → Asked
asked a = record {
  tx = a.tx;
  level = a.level;
  seen = a.seen;
  strength = a.strength;
  policy = a.policy;
  condition = option_map (λ e. tree_of e.now) a.filter;
  cols = a.cols.now;
}

-- the row's newest version, if it isn't gone, has a value for each column
abbrev pub Fits : Content → Asked → Type 0
Fits c ask = (m : Seen) (values : List Value) → newest_of c ask.seen.row ask.tx ≡ Some m → values_at c m.place ≡ Some values
    → length values ≡ length ask.cols
