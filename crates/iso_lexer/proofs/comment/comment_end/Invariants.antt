use Rattle.std.proofs.Common.{◌≡◌, ◌≤◌, ◌-◌, drop, length}
use Rattle.iso_lexer.specs.Comments.{after_comment}
use Rattle.iso_lexer.proofs.comment.comment_end.Given as goal

abbrev pub invariant-loop-at : goal.invariant-loop-at
invariant-loop-at l = record { same : after_comment l.around (drop l.at l.bytes) ≡ after_comment 0 l.bytes; within : l.at ≤ length l.bytes; few : l.around ≤ l.at }

abbrev pub decreases-loop-at : goal.decreases-loop-at
decreases-loop-at l = length l.bytes - l.at
