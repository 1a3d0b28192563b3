use Rattle.std.proofs.Common.{◌≡◌}
use Rattle.key_hash.specs.Placing.{placed}
use Rattle.call_machine.specs.CallRest.{call_rest}
use Rattle.world_texts.specs.Texts.{questions_of}
use Rattle.running_client.specs.Traces.{text}
use Rattle.running_client.proofs.begin.settle.Given as goal

abbrev pub invariant-loop-key : goal.invariant-loop-key
invariant-loop-key g l = text (placed (g.P.Placer.listed l.placer)) l.machine ≡ text (placed (g.P.Placer.listed l.placer)) l.initial.machine

abbrev pub decreases-loop-key : goal.decreases-loop-key
decreases-loop-key g l = questions_of (placed (g.P.Placer.listed l.placer)) (call_rest l.machine)
