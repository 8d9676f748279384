use Rattle.std.proofs.Common.{◌≡◌, ◌↔◌, drop}
use Rattle.sql_blocks.specs.Blocks.{blocks_of}
use Rattle.session_machine.specs.Machine.{opening}
use Rattle.session_machine.specs.Sound.{IsSoundMachine}
use Rattle.session_core.specs.Inner.Blocking.{AreBlockers}
use Rattle.session_core.specs.Inner.Kept.{AllKept}
use Rattle.wait_laws.specs.Laws.{Reaches}
use Rattle.session_core.proofs.Replaying.{LeadsOn}
use Rattle.session_core.proofs.replay.replays.Given as goal

-- the items that are left go on from here exactly if all do from the opening
abbrev pub invariant-loop-item : goal.invariant-loop-item
invariant-loop-item l =
    record {
      sound : IsSoundMachine l.live;
      counted : l.live.events ≡ l.item-index;
      reached : Reaches (blocks_of l.blocks) l.mode l.count l.live;
      kept : AllKept (blocks_of l.blocks) l.live l.kept;
      blockers : AreBlockers l.live l.blockers;
      legal : LeadsOn (blocks_of l.blocks) l.mode l.live (drop l.item-index l.history) ↔ LeadsOn (blocks_of l.blocks) l.mode (opening l.count) l.history;
    }
