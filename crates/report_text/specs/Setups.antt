-- To be believed. What setups say.
use Rattle.std.specs.Prelude.{ℕ, List, [], if◌then◌else◌}
use Rattle.std.specs.Str.Lossy.{utf8_lossy}
use Rattle.session_machine.specs.declared.event.Order.{Order}
use Rattle.session_machine.specs.declared.event.Order.TheVariants.{Launch}
use Rattle.session_machine.specs.declared.reply.HistItem.{HistItem}
use Rattle.session_machine.specs.declared.reply.Outcome.TheVariants.{Failed}
use Rattle.report_lines.specs.Due.{segment, went_well}
use Rattle.report_text.specs.FaultText.{fault_text}
use Rattle.report_text.specs.Replies.{rows_text, last_outcome}
use Rattle.report_text.specs.Said.{setup_failed, setup_waits, Said, only_ends, says}

-- The order of this number is a setup's. Where that went well it says the table of its last reply; else it failed, with its text, or it waits, and ends the report. What is no
-- UTF-8 in a text stands as U+FFFD.
abbrev pub setup_says : List HistItem → ℕ → Order → Said
setup_says items k (Launch session block) =
    let last = last_outcome (segment items k) in
    if went_well items k session then says (rows_text last)
    else only_ends (elim last [ Failed fault ↦ setup_failed (utf8_lossy (fault_text fault)) | _ ↦ setup_waits ])
setup_says items k _ = says []
