use Rattle.std.proofs.Common.{◌≡◌, take}
use Rattle.block_taking.proofs.take_op.TakeOp.nexts.Given as goal

-- the numbers so far
abbrev pub invariant-loop-i : goal.invariant-loop-i
invariant-loop-i l = l.nexts ≡ take l.i l.self.progress.nexts
