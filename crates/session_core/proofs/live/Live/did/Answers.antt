use Rattle.sql_blocks.specs.Blocks.{blocks_of}
use Rattle.session_core.proofs.Holding.{kept_launched, kept_left}
use Rattle.session_core.proofs.live.Live.did.Goals as goal

pub returns-in-Launch-clause-kept : goal.returns-in-Launch-clause-kept
returns-in-Launch-clause-kept g c count reached =
    kept_launched (blocks_of c.args.blocks.now) c.args.mode count c.args.self.now c.launch.new.self c.in-Launch.session c.in-Launch.block c.launch.result c.args.kept.now reached c.requires.sound
    c.launch.ensures c.requires.kept

pub returns-in-Leave-clause-kept : goal.returns-in-Leave-clause-kept
returns-in-Leave-clause-kept g c count reached =
    kept_left (blocks_of c.args.blocks.now) c.args.mode count c.args.self.now c.leave.new.self c.in-Leave.session c.leave.result c.args.kept.now c.leave.new.kept reached c.requires.sound
    c.leave.ensures.answer c.leave.ensures.dropped c.leave.ensures.refused c.requires.kept
