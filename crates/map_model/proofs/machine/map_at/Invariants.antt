use Rattle.std.proofs.Common.{◌≡◌, drop, take}
use Rattle.map_model.specs.Machine.{map_after, map_at}
use Rattle.map_model.proofs.machine.map_at.Given as goal

-- the changes that are left lead to the map after all of them
abbrev pub invariant-loop-i : goal.invariant-loop-i
invariant-loop-i l = map_after l.map (drop l.i (take l.n l.changes.items)) ≡ map_at l.changes.items l.n
