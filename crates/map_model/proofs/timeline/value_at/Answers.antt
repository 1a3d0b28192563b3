use Rattle.std.proofs.Common.{sym, ap}
use Rattle.std.specs.Option.{option_and_then}
use Rattle.kv_block.specs.declared.changes.Change.{Change}
use Rattle.map_model.proofs.timeline.value_at.Goals as goal

pub returns : goal.returns
returns c = sym (ap (option_and_then (λ (d : Change). d.value)) c.get.ensures)
