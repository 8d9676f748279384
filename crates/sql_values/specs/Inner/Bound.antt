-- An expression whose columns are looked up once, and then found by place.
use Rattle.std.specs.Prelude.{◌≡◌, Bool, true, List, length, Ok}
use Rattle.sql_trees.specs.Trees.{Tree, tree_of}
use Rattle.sql_values.specs.declared.bound.Form.{Form}
use Rattle.sql_values.specs.declared.bound.Form.TheVariants as form
use Rattle.sql_values.specs.declared.bound.Form.TheVariants.{Binary'}
use Rattle.sql_values.specs.declared.lent.Lent.{Lent}
use Rattle.sql_values.specs.declared.lent.Lent.TheVariants.{Made, Of}
use Rattle.sql_values.specs.declared.value.Value.{Value}
use Rattle.sql_values.specs.Values.{Answer}
use Rattle.sql_values.specs.Expressions.{Cols, value}
use Rattle.sql_values.specs.Growing.{may_grow}
use Rattle.sql_values.specs.Sorting.{key}
use Rattle.sql_values.specs.Inner.Connectives.{binary}

-- its value at a row
abbrev pub value_by_place : Form → Cols → List Value → Answer
value_by_place (form.Written e) cols row = value (tree_of e.now) cols row
value_by_place (form.Constant v) cols row = Ok v
value_by_place (form.Column place) cols row = Ok (key place row)
value_by_place (Binary' op p a q b) cols row = binary op (value_by_place a cols row) (value_by_place b cols row)

-- it has the value of the expression at each row of these columns
abbrev pub IsFormOf : Cols → Tree → Form → Type 0
IsFormOf cols e f = (row : List Value) → length row ≡ length cols → value_by_place f cols row ≡ value e cols row

-- it may ask for memory when it is evaluated
abbrev pub asks : Form → Bool
asks (form.Written e) = may_grow (tree_of e.now)
asks f = true

-- an expression that is bound to these columns is evaluated so
abbrev pub IsBoundAs : Cols → Tree → Form → Type 0
IsBoundAs cols e f = IsFormOf cols e f × (asks f ≡ true → may_grow e ≡ true)

-- the value, wherever it lies
abbrev pub lent : Lent → Value
lent (Made v) = v
lent (Of v) = v.now
