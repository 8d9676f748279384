-- What stops a statement, and what a row meets that is about to be written, in the machine's words.
use Rattle.session_machine.specs.Walks as walk
use Rattle.session_machine.specs.Rows as rows
use Rattle.session_database.specs.declared.stop.Stop.{Stop}
use Rattle.session_database.specs.declared.stop.Stop.TheVariants.{Blocked, Fails}
use Rattle.session_database.specs.declared.stop.Meets.{Meets}
use Rattle.session_database.specs.declared.stop.Meets.TheVariants.{Stops, PassesOver}

abbrev pub stop_of : Stop → walk.Stop
stop_of (Blocked request) = walk.Blocked request
stop_of (Fails fault) = walk.Fails fault

abbrev pub meets_of : Meets → rows.Meets
meets_of (Stops stop) = rows.Stops (stop_of stop)
meets_of PassesOver = rows.PassesOver
