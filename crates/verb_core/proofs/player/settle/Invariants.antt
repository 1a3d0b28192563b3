use Rattle.std.proofs.Common.{◌≡◌}
use Rattle.key_hash.specs.Placing.{placed}
use Rattle.verb_core.proofs.player.settle.Given as goal

abbrev pub invariant-loop-machine : goal.invariant-loop-machine
invariant-loop-machine g l = g.M.Playable.kind.text (placed (g.P.Placer.listed l.placer)) l.machine ≡ g.M.Playable.kind.text (placed (g.P.Placer.listed l.placer)) l.initial.machine

abbrev pub decreases-loop-machine : goal.decreases-loop-machine
decreases-loop-machine g l = g.M.Playable.kind.questions (placed (g.P.Placer.listed l.placer)) l.machine
