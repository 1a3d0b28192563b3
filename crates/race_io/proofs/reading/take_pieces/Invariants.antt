use Rattle.std.proofs.Common.{length, ◌-◌, ◌≤◌}
use Rattle.std.specs.Io.KnownBytes.{Consumes}
use Rattle.race_io.proofs.reading.take_pieces.Given as goal

-- the bytes so far came from the front, are no more than the limit, and no fault was taken back
abbrev pub invariant-loop-bytes : goal.invariant-loop-bytes
invariant-loop-bytes g l = record {
  most : length l.bytes.items ≤ l.limit;
  front : Consumes (g.S.Source.left l.fn.source) (g.S.Source.left l.source) l.bytes.items;
  counted : g.S.Source.faults l.fn.source ≤ g.S.Source.faults l.source;
}

abbrev pub decreases-loop-bytes : goal.decreases-loop-bytes
decreases-loop-bytes g l = l.limit - length l.bytes.items
