-- Where a permutation is invalid, in the words of its tries.
use Rattle.std.specs.Prelude.{◌≡◌, ℕ, zero, suc, ◌==◌, ◌<◌, ◌≤◌, ◌⊎◌, true, false, List, [], length}
use Rattle.report_lines.specs.History.{PermutationRun}
use Rattle.report_lines.specs.Report.{moment_of}
use Rattle.report_lines.specs.Tries.{Try, still_active, all_passes, has_active, tries_before, tries_after}

-- the tries by the time that so many entries are launched, each after the tries before its Launch
abbrev pub launched_tries : PermutationRun → ℕ → List Try
launched_tries c zero = []
launched_tries c (suc e) = tries_after c (tries_before c (launched_tries c e) e) e

-- the tries by the time that an entry's turn comes, and by the end
abbrev pub tries_up_to : PermutationRun → ℕ → List Try
tries_up_to c e = tries_before c (launched_tries c e) e

abbrev pub tries_to_the_end : PermutationRun → List Try
tries_to_the_end c = all_passes c (moment_of c (length c.entries) (length c.entries)) (launched_tries c (length c.entries))

-- a session's step is still active when the next one's turn comes, before which so many segments of entries are there
pub record IsStuck (c : PermutationRun) (count : ℕ) : Type 0 where
  pub entry : ℕ
  pub one : entry < length c.entries
  pub reached : entry ≤ count
  pub active : has_active c (tries_up_to c entry) entry ≡ true

-- the segments of all entries are there, and some step is active at the end
pub record StaysActive (c : PermutationRun) (count : ℕ) : Type 0 where
  pub reached : length c.entries ≤ count
  pub active : (length (still_active c (tries_to_the_end c) (length c.entries)) == 0) ≡ false

abbrev pub IsInvalid : PermutationRun → ℕ → Type 0
IsInvalid c count = IsStuck c count ⊎ StaysActive c count
