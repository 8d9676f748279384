-- To be believed. Segments of a history, and what they show of a step.
use Rattle.std.specs.Prelude.{ℕ, ◌+◌, Bool, List, [], unwrap_or, slice_get, slice_range}
use Rattle.std.specs.List.{list_any}
use Rattle.report_lines.specs.Starts.{segment_start, ends_in}
use Rattle.session_machine.specs.declared.reply.HistItem.{HistItem}
use Rattle.spec_parser.specs.Trees.{EntryTree}

-- a permutation with its history; so many segments come before that of the first entry
pub record PermutationRun : Type 0 where
  pub entries : List EntryTree
  pub items : List HistItem
  pub setups : ℕ

-- the entry of this number, from 0
abbrev pub entry_at : PermutationRun → ℕ → EntryTree
entry_at c i = unwrap_or (slice_get c.entries i) (record { session = 0; step = 0; markers = [] })

-- how many items there are before the segment of an entry, and with it
abbrev pub seen_before : PermutationRun → ℕ → ℕ
seen_before c i = segment_start c.items (c.setups + i)

-- the entry's block has ended in the items so far
abbrev pub has_ended : PermutationRun → ℕ → ℕ → Bool
has_ended c seen i = list_any (ends_in (entry_at c i).session) (slice_range c.items (seen_before c i) seen)
