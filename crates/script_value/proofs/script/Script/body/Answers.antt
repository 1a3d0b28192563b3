use Rattle.std.proofs.Common.{length, []}
use Rattle.script_value.proofs.Joined.{stops_known, schedules_known}
use Rattle.script_value.proofs.script.Script.body.Goals as goal

pub returns-clause-stops : goal.returns-clause-stops
returns-clause-stops c = rw (← c.self.view_is) (stops_known (length c.self.inside.body.clients) [] c.self.inside.body.stops c.self.invariant.content.stops)

pub returns-clause-items : goal.returns-clause-items
returns-clause-items c = rw (← c.self.view_is) (schedules_known (length c.self.inside.body.clients) c.self.inside.body.schedules c.self.invariant.content.schedules)
