use Rattle.std.proofs.Common.{◌≡◌, ◌-◌, ◌≤◌, true, length}
use Rattle.std.specs.Io.KnownBytes.{Consumes}
use Rattle.iso_lexer.proofs.whole.read_all.Given as goal

abbrev pub invariant-loop-buffer : goal.invariant-loop-buffer
invariant-loop-buffer g l =
    let left = g.S.Source.left in
    let failed = g.S.Source.failed in
    record {
      within : length l.bytes.items ≤ l.limit;
      consumed : Consumes (left l.fn.source) (left l.source) l.bytes.items;
      calm : failed l.source ≡ true → length l.bytes.items ≡ 0;
      stays : failed l.fn.source ≡ true → failed l.source ≡ true;
    }

abbrev pub decreases-loop-buffer : goal.decreases-loop-buffer
decreases-loop-buffer g l = l.limit - length l.bytes.items
