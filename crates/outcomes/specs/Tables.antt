-- The rows of tables behind a history.
use Rattle.std.specs.Prelude.{◌≡◌, ℕ, List, map, Option, option_map, Ok, IfSome}
use Rattle.std.specs.Global.{Vec}
use Rattle.sql_values.specs.declared.value.Value.{Value}
use Rattle.session_machine.specs.declared.event.Mode.TheVariants.{Directed}
use Rattle.session_machine.specs.declared.reply.HistItem.{HistItem}
use Rattle.session_machine.specs.Machine.{Machine, Blocks, opening, Run}
use Rattle.session_machine.specs.Engine.{visible_in}

-- tables, without where they lie in memory
abbrev pub tables_view : List (Option (Vec (List Value))) → List (Option (List (List Value)))
tables_view tables = map (λ (rows : Option (Vec (List Value))). option_map (λ (v : Vec (List Value)). v.items) rows) tables

-- the machine, to which the items lead, shows the control session these rows of the tables of these names: what is committed, unless a setup has left a transaction open there
pub record Shown (blocks : Blocks) (count : ℕ) (items : List HistItem) (names : List (List ℕ)) (tables : List (Option (List (List Value)))) : Type 0 where
  pub state : Option Machine
  pub leads : IfSome state (λ m. Run blocks Directed (opening count) items m)
  pub rows : map (visible_in state 0) names ≡ map Ok tables
