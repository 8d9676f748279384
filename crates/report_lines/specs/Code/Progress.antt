-- What is kept of a permutation and a prefix of its history.
use Rattle.std.specs.Prelude.{◌≡◌, ℕ, ◌+◌, ◌-◌, ◌≤◌, List, length, map, take}
use Rattle.report_lines.specs.declared.progress.PlanProgress.{PlanProgress}
use Rattle.session_machine.specs.declared.reply.HistItem.{HistItem}
use Rattle.spec_parser.specs.declared.tree.Entry.{Entry}
use Rattle.spec_parser.specs.Trees.{entry_view}
use Rattle.report_lines.specs.History.{PermutationRun}
use Rattle.report_lines.specs.Due.{orders}
use Rattle.report_lines.specs.Code.Places.{IsSeen}
use Rattle.report_lines.specs.Code.SoFar.{IsReportSoFar}

-- a permutation of these entries with its history; so many segments come before that of the first entry
abbrev pub permutation_run : List Entry → List HistItem → ℕ → PermutationRun
permutation_run entries items setups = record { entries = map entry_view entries; items = items; setups = setups }

-- what is kept is what these items lead to, but that the lines of the last segment may be missing yet
pub record Keeps (c : PermutationRun) (p : PlanProgress) : Type 0 where
  pub seen_are : p.seen ≡ length c.items
  pub found : IsSeen c p.starts.items p.last.items
  pub reported : IsReportSoFar c p.segments_done p.so_far p.state
  pub low : p.segments_done ≤ orders c.items - c.setups
  pub high : orders c.items - c.setups ≤ p.segments_done + 1

-- the first so many items
abbrev pub first_items : PermutationRun → ℕ → PermutationRun
first_items c n = record { entries = c.entries; items = take n c.items; setups = c.setups }

-- what is kept is of a prefix of this history
pub record KeepsFront (c : PermutationRun) (p : PlanProgress) : Type 0 where
  pub few : p.seen ≤ length c.items
  pub kept : Keeps (first_items c p.seen) p

-- what is kept is what all these items lead to, and the lines of no segment are missing
pub record IsSettled (c : PermutationRun) (p : PlanProgress) : Type 0 where
  pub kept : Keeps c p
  pub all : p.segments_done ≡ orders c.items - c.setups
