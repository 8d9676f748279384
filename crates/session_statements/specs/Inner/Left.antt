-- What a statement leaves, as the machine's definitions say it.
use Rattle.session_machine.specs.Tables.{Database}
use Rattle.session_machine.specs.Statements.{Effect}
use Rattle.session_statements.specs.declared.effect.Effect.{Effect as Left}

abbrev pub left : Database → Left → Effect
left db did = record { db = db; transaction = did.transaction; statement = did.statement; outcome = did.outcome }
