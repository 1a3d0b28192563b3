use Rattle.std.proofs.Common.{◌↔◌, drop}
use Rattle.std.specs.FinMap.{empty}
use Rattle.map_model.specs.History.{Replays}
use Rattle.map_model.proofs.histories.replays.Given as goal

-- all calls replay just where those that are left do
abbrev pub invariant-loop-answered : goal.invariant-loop-answered
invariant-loop-answered l = Replays l.map (drop l.answered-index l.history) ↔ Replays empty l.history
