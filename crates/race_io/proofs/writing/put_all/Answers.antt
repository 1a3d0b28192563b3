use Rattle.std.proofs.Common.{arith, length-drop}
use Rattle.race_io.proofs.Chains.{Appends-next}
use Rattle.race_io.proofs.writing.put_all.Goals as goal

pub loop-done-preserved : goal.loop-done-preserved
loop-done-preserved g c = record {
  within = omega (arith, c.in_ok-done.ensures.most, length-drop c.loop-done.done c.args.bytes.now);
  appended = Appends-next _ _ _ _ _ _ c.loop-done.invariant.appended c.in_ok-done.ensures.appended;
  counted = omega (arith, c.in_ok-done.ensures.counted, c.loop-done.invariant.counted);
}
