use Rattle.std.proofs.Common.{◌≡◌, ◌≤◌, length, take}
use Rattle.spelling.specs.Words.{hex_bytes}
use Rattle.spelling.proofs.Hex.{behind}
use Rattle.spelling.proofs.word.fill_hex.Given as goal

-- the bytes so far, and those of the digits that are left
abbrev pub invariant-loop-rest : goal.invariant-loop-rest
invariant-loop-rest l = record {
  read : behind (take l.len l.bytes) (hex_bytes l.rest) ≡ hex_bytes l.digits;
  room : l.len ≤ length l.bytes;
  same : length l.bytes ≡ length l.fn.bytes;
}

abbrev pub decreases-loop-rest : goal.decreases-loop-rest
decreases-loop-rest l = length l.rest
