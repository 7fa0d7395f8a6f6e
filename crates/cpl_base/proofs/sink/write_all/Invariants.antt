use Rattle.std.proofs.Common.{◌≡◌, ◌≤◌, length, take, drop}
use Rattle.cpl_base.specs.Outside.{bytes_after}
use Rattle.cpl_base.proofs.OutsideFacts.{done}
use Rattle.cpl_base.proofs.sink.write_all.Given as goal

-- the bytes that are no longer in the rest are written
abbrev pub invariant-loop-rest : goal.invariant-loop-rest
invariant-loop-rest g l =
    record {
      rest_is : l.rest ≡ drop (done l.bytes l.rest) l.bytes;
      shorter : length l.rest ≤ length l.bytes;
      written : g.S.Sink.sent l.sink ≡ bytes_after (g.S.Sink.sent l.fn.sink) (take (done l.bytes l.rest) l.bytes);
      quiet : g.S.Sink.faults l.sink ≡ g.S.Sink.faults l.fn.sink;
    }

abbrev pub decreases-loop-rest : goal.decreases-loop-rest
decreases-loop-rest g l = length l.rest
