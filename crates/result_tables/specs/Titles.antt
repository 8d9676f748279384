-- To be believed. What titles print.
use Rattle.std.specs.Prelude.{ℕ, List, codes}
use Rattle.query_results.specs.declared.title.Title.{Title}
use Rattle.query_results.specs.declared.title.Title.TheVariants.{Column, Unnamed, Count, Sum, Min, Max}

-- an alias or a column's name, and else a fixed text
abbrev pub title_text : Title → List ℕ
title_text (Column name) = name
title_text Unnamed = codes "?column?"
title_text Count = codes "count"
title_text Sum = codes "sum"
title_text Min = codes "min"
title_text Max = codes "max"
