use Rattle.std.proofs.Common.{ap, ◌∙◌}
use Rattle.std.specs.Prelude.{option_and_then}
use Rattle.row_versions.specs.Newest.{newest_of}
use Rattle.row_versions.specs.Log.{has_committed, is_open}
use Rattle.unique_keys.specs.Writes.{writes}
use Rattle.unique_keys.proofs.Nulls.{null_blocked_by_none, null_taken_by_none}
use Rattle.unique_keys.proofs.Logged.{blockers_are, taken_is, taker_is}
use Rattle.unique_keys.proofs.laws.null_is_free.Goals as goal

pub returns : goal.returns
returns c = λ content table tx except asked columns h. (
  blockers_are content table tx asked columns ∙ null_blocked_by_none (has_committed content) (is_open content.fates) (writes content) table tx asked columns h,
  taken_is content table tx except asked columns
      ∙ ap (λ o. option_and_then (λ row. newest_of content row tx) o) (taker_is content table tx except asked columns ∙ null_taken_by_none (has_committed content) (writes content) table tx except asked columns h),
)
