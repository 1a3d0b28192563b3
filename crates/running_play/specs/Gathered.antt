-- What workers left, where each found memory.
use Rattle.std.specs.Prelude.{List, map, Result, Ok}
use Rattle.running_play.specs.declared.worker.Worked.{Worked}

abbrev pub all_ok : {E : Type 0} → List Worked → List (Result Worked E)
all_ok all = map (λ (w : Worked). Ok w) all
