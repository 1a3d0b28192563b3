use Rattle.std.proofs.Common.{◌≡◌, take}
use Rattle.kv_block.specs.Packing.{bytes_of}
use Rattle.node_image.proofs.numbers.write_bytes.Given as goal

abbrev pub invariant-loop-number : goal.invariant-loop-number
invariant-loop-number l = l.bytes.items ≡ bytes_of (take l.number-index l.numbers)
