use Rattle.std.proofs.Common.{◌≡◌, ◌+◌, ◌*◌, ◌++◌, drop, length}
use Rattle.spelling.specs.Spelling.{hex_text}
use Rattle.spelling.proofs.page.Page.put_hex.Given as goal

-- the digits so far and those of the bytes that are left, and the room for these
abbrev pub invariant-loop-byte : goal.invariant-loop-byte
invariant-loop-byte l = record {
  items : l.self.items ++ hex_text (drop l.byte-index l.bytes) ≡ l.fn.self.items ++ hex_text l.bytes;
  room : l.self.room + 2 * l.byte-index ≡ l.fn.self.room;
  kept : length l.self.items + l.self.room ≡ length l.fn.self.items + l.fn.self.room;
}
