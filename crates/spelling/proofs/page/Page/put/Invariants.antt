use Rattle.std.proofs.Common.{◌≡◌, ◌+◌, ◌++◌, drop}
use Rattle.spelling.proofs.page.Page.put.Given as goal

-- the bytes so far and those that are left, and the room for these
abbrev pub invariant-loop-byte : goal.invariant-loop-byte
invariant-loop-byte l = record {
  items : l.self.items ++ drop l.byte-index l.bytes ≡ l.fn.self.items ++ l.bytes;
  room : l.self.room + l.byte-index ≡ l.fn.self.room;
}
