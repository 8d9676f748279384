-- The permutations that were drafted, and those behind them.
use Rattle.std.specs.Prelude.{List, ◌++◌, map}
use Rattle.std.specs.Global.{Vec}
use Rattle.spec_parser.specs.declared.tree.Entry.{Entry}
use Rattle.spec_parser.specs.Trees.{EntryTree, perm_view}
use Rattle.spec_files.specs.declared.draft.Draft.{Draft}
use Rattle.spec_files.specs.Drafts.{entries_of}

-- the permutations with these entries
abbrev pub lists_of : List (Vec Entry) → List (List EntryTree)
lists_of taken = map perm_view taken

-- the permutations that are still to be written: those that were drafted, and those behind them
abbrev pub to_come : List Draft → List (List EntryTree) → List (List EntryTree)
to_come drafts behind = map entries_of drafts ++ behind
