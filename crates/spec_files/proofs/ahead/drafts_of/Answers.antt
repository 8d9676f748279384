use mir.Syntax.{named}
use denote.Exit.{no}
use denote.RattleType.{RattleType}
use denote.Param.Send.{AllSync, sendable, param_sync, arg_sync, recorded_sync, struct_sync}
use denote.Struct.Tuple.{type_at}
use denote.Struct.Declared.{shape}
use Rattle.std.specs.Prelude.{List}
use Rattle.std.proofs.Crossing.{crosses}
use Rattle.spec_files.proofs.Sending.{file_sync}
use Rattle.spec_files.proofs.ahead.drafts_of.Lts as Lts
use Rattle.spec_files.proofs.ahead.drafts_of.Goals as goal

pub side_by_side-requires-sync-F : goal.side_by_side-requires-sync-F
side_by_side-requires-sync-F g c κs within =
    let F = Lts.arg-0-1 g.row.F g.row.R g.F.laws g.R.laws g.F.Fn-dict g.F.FnMut-dict g.F.FnOnce-dict g.R.Threads-dict g.R.Wait-dict g.F.Destruct-dict κs in
    let fields : List RattleType = Lts.of-12 g.row.F g.row.R g.F.laws g.R.laws g.F.Fn-dict g.F.FnMut-dict g.F.FnOnce-dict g.R.Threads-dict g.R.Wait-dict g.F.Destruct-dict
    (record { mir = named 8; lft = κs.1.1.1.1.1.1.1.1.0 }) (record { mir = named 9; lft = κs.1.1.1.1.1.1.1.1.1.0 }) (record { mir = named 10; lft = κs.1.1.1.1.1.1.1.1.1.1.0 }) in
    let all : AllSync fields = (search (sendable, crosses) depth 60, (search (sendable, crosses, file_sync) depth 60, tt)) in
    let T = type_at (Lts.name-8 g.row.F g.row.R g.F.laws g.R.laws g.F.Fn-dict g.F.FnMut-dict g.F.FnOnce-dict g.R.Threads-dict g.R.Wait-dict g.F.Destruct-dict) fields in
    param_sync 1 F (arg_sync _ no _ (recorded_sync _ _ _ T.to_one (struct_sync (shape T) all)))
