use Rattle.std.proofs.Common.{◌∙◌, ap, not}
use Rattle.script_value.proofs.Lines.{no_items}
use Rattle.script_value.proofs.script.Script.has_items.Goals as goal

pub returns : goal.returns
returns c = rw (← c.self.view_is) (ap not (c.has_no_schedule.ensures ∙ no_items _ _ c.self.invariant.content.schedules))
