use Rattle.std.proofs.Common.{◌≡◌, ◌++◌, drop}
use Rattle.spelling.specs.Spelling.{hex_text}
use Rattle.spelling.proofs.writer.Writer.put_hex.Given as goal

-- the digits so far, and those of the bytes that are left
abbrev pub invariant-loop-byte : goal.invariant-loop-byte
invariant-loop-byte l = l.self.items ++ hex_text (drop l.byte-index l.bytes) ≡ l.fn.self.items ++ hex_text l.bytes
