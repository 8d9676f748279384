use Rattle.std.proofs.Common.{◌≡◌, length, ap, arith}
use Rattle.report_lines.specs.Due.{orders}
use Rattle.report_lines.specs.Code.Places.{starts_from}
use Rattle.report_lines.proofs.Found.{count_found}
use Rattle.report_lines.proofs.segments.Segments.count.Goals as goal

pub returns : goal.returns
returns c =
    let long : length c.self.inside.starts.now ≡ length (starts_from 0 c.self.inside.history.now) = ap length c.self.invariant.starts_are in
    let counted : length (starts_from 0 c.self.inside.history.now) ≡ orders c.self.inside.history.now = count_found c.self.inside.history.now 0 in
    let same : orders c.self.inside.history.now ≡ orders c.args.self.now = ap orders c.self.view_is in
    omega arith
