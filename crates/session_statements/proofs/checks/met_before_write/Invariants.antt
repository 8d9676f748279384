use Rattle.std.proofs.Common.{◌≡◌, drop, map}
use Rattle.sql_trees.specs.Statements.{key_of}
use Rattle.session_machine.specs.Inner.Statements.{keys_in, meet_keys}
use Rattle.session_statements.specs.Inner.Acting.{putting_of}
use Rattle.session_statements.proofs.checks.met_before_write.Given as goal

abbrev pub invariant-loop-key : goal.invariant-loop-key
invariant-loop-key g l =
    meet_keys l.db l.work (putting_of l.put) l.values l.except (map key_of (drop l.key-index l.keys))
    ≡ meet_keys l.db l.work (putting_of l.put) l.values l.except (keys_in l.db l.work)
