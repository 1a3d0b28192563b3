use Rattle.std.proofs.Common.{◌≡◌, ◌++◌, length}
use Rattle.script_value.specs.Made.{made_schedules}
use Rattle.script_value.proofs.body.Body.add_items.Given as goal

-- the lines so far, and those of the items that are left
abbrev pub invariant-loop-rest : goal.invariant-loop-rest
invariant-loop-rest l =
    record l.self { schedules = l.self.schedules ++ made_schedules l.rest } ≡ record l.fn.self { schedules = l.fn.self.schedules ++ made_schedules l.items }

abbrev pub decreases-loop-rest : goal.decreases-loop-rest
decreases-loop-rest l = length l.rest
