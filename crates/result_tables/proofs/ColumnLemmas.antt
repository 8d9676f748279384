-- The columns of a table, one by one.
use Rattle.std.proofs.Common.{◌≡◌, ℕ, ◌+◌, ◌<◌, List, [], ◌∷◌, ◌++◌, length, get_or, take, map, sym, ap, ◌∙◌, arith}
use Rattle.std.proofs.lemmas.List.{take_more, get_or-map, length-map}
use Rattle.std.proofs.lemmas.List.FromFn.{length-map-range_with_len, get_or-map-range_with_len}
use Rattle.result_tables.specs.declared.column.ColumnLayout.{ColumnLayout}
use Rattle.query_results.specs.declared.title.Title.{Title}
use Rattle.result_tables.specs.Printed.{printed}
use Rattle.result_tables.specs.Titles.{title_text}
use Rattle.result_tables.specs.TableText.{layout_of}
use Rattle.result_tables.specs.Inner.Lines.{layouts_of}
use Rattle.result_tables.specs.Inner.Columns.{cells}
use Rattle.query_results.specs.Results.{Results}

-- the columns of a result's table
abbrev columns : Results → List ColumnLayout
columns set = layouts_of (map title_text set.titles) (map (map printed) set.rows)

-- as many columns as titles
pub length-columns_of : (set : Results) → length (columns set) ≡ length set.titles
length-columns_of set = length-map-range_with_len _ 0 (length (map title_text set.titles)) ∙ length-map set.titles title_text

-- one more column
pub columns_more : (set : Results) (k : ℕ) (title : Title) → k < length set.titles → title ≡ get_or set.titles k title
    → take (k + 1) (columns set) ≡ take k (columns set) ++ layout_of (title_text title) (cells (map (map printed) set.rows) k) ∷ []
columns_more set k title h e =
    let titles = map title_text set.titles in
    let rows = map (map printed) set.rows in
    let values = cells rows k in
    let within : k < length (columns set) = omega (arith, length-columns_of set) in
    let inside : k < length titles = omega (arith, length-map set.titles title_text) in
    let here : get_or titles k [] ≡ title_text title = get_or-map title_text set.titles k title [] h ∙ ap title_text (sym e) in
    let first : ColumnLayout = layout_of (title_text title) values in
    let column : get_or (columns set) k first ≡ first =
    get_or-map-range_with_len (λ i. layout_of (get_or titles i []) (cells rows i)) 0 (length titles) k k first inside (omega arith) ∙ ap (λ x. layout_of x values) here in
    take_more (columns set) k first within ∙ ap (λ x. take k (columns set) ++ x ∷ []) column
