use Rattle.std.proofs.Common.{arith, rules}
use Rattle.kv_block.proofs.Ranges.{AreBytes-from_fits}
use Rattle.kv_block.specs.Filled.{IsFilled-filled, take-filled}
use Rattle.kv_block.proofs.bytes.Value.from_bytes.Goals as goal

pub invariant_of-result : goal.invariant_of-result
invariant_of-result c = (search rules, rw c.padded.ensures (IsFilled-filled 1024 _ (omega arith)), rw (c.padded.ensures, take-filled 1024 _) (AreBytes-from_fits _ (λ k. c.type_inv.bytes k)))

pub returns : goal.returns
returns c = (search rules, rw c.padded.ensures (take-filled 1024 _))
