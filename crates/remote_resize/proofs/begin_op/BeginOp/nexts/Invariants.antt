-- The numbers of the nodes so far.
use Rattle.std.proofs.Common.{◌≡◌, take}
use Rattle.remote_resize.proofs.begin_op.BeginOp.nexts.Given as goal

-- the numbers so far
abbrev pub invariant-loop-i : goal.invariant-loop-i
invariant-loop-i l = l.nexts ≡ take l.i l.self.starter.nexts
