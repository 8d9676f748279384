use Rattle.std.proofs.Common.{◌≡◌, ◌∙◌, ℕ, List, ap, sym, map, None, rules}
use Rattle.std.specs.Prelude.{Option}
use Rattle.std.specs.Option.{option_or}
use Rattle.sql_trees.specs.declared.stmt.Item.{Item}
use Rattle.sql_trees.specs.declared.stmt.OrderKey.{OrderKey}
use Rattle.sql_trees.specs.Statements.{OrderTree, column_of, item_of, order_of, select_of}
use Rattle.query_results.specs.Queries.{cols_of, meant, select_exprs, undefined_among}
use Rattle.session_queries.proofs.ColumnLists.{known_columns}
use Rattle.session_queries.proofs.ColumnsNamed.{of_select, select_answer}
use Rattle.session_queries.proofs.Meant.{keys_mean}
use Rattle.session_queries.specs.Inner.Undefined.{first_of, undefined_column, undefined_in_condition, undefined_in_item, undefined_in_key}
use Rattle.session_queries.proofs.undefined.undefined_in_select.Goals as goal

pub returns-in-Some : goal.returns-in-Some
returns-in-Some c = select_answer (cols_of (map column_of c.args.columns.now)) (select_of c.args.select.now) _ (search (rules, known_columns))

pub returns-in-Some-undefined_in_condition : goal.returns-in-Some-undefined_in_condition
returns-in-Some-undefined_in_condition c = select_answer (cols_of (map column_of c.args.columns.now)) (select_of c.args.select.now) _ (search (rules, known_columns))

pub returns-in-None : goal.returns-in-None
returns-in-None c =
    let cols = c.of-columns.result in
    let s = select_of c.args.select.now in
    let named : cols_of (map column_of c.args.columns.now) ≡ cols = known_columns c.args.columns.now ∙ sym c.of-columns.ensures in
    let none : c.undefined_in_items.result ≡ None = search rules in
    let in_items : first_of (undefined_in_item cols) s.items ≡ None =
    ap (λ is. first_of (undefined_in_item cols) (map item_of is)) (sym c.deref.ensures.value) ∙ sym c.undefined_in_items.ensures ∙ none in
    let in_filter : undefined_in_condition cols s.filter ≡ None = sym c.undefined_in_condition.ensures ∙ c.in-None.is in
    let of_keys = λ (is : List Item) (os : List OrderKey). first_of (λ (k : OrderTree). undefined_in_key cols (map item_of is) k.expr) (map order_of os) in
    let in_keys : c.undefined_in_keys.result ≡ first_of (λ (k : OrderTree). undefined_column cols (meant s.items k.expr)) s.order =
    c.undefined_in_keys.ensures ∙ ap (λ is. of_keys is c.deref-in-None-2.result.now) c.deref-in-None.ensures.value ∙ ap (of_keys c.args.select.now.items.items) c.deref-in-None-2.ensures.value
    ∙ keys_mean cols s.items s.order in_items in
    let behind = λ (lacks : Option (List ℕ)). option_or lacks (first_of (λ (k : OrderTree). undefined_column cols (meant s.items k.expr)) s.order) in
    in_keys ∙ sym (ap (λ cs. undefined_among cs (select_exprs s)) named ∙ of_select cols s ∙ ap (λ lacks. option_or lacks (behind (undefined_in_condition cols s.filter))) in_items ∙ ap behind in_filter)
