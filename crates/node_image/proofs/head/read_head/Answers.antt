use Rattle.std.proofs.Common.{ap, sym}
use Rattle.std.specs.Prelude.{slice_index}
use Rattle.node_image.proofs.head.read_head.Goals as goal

pub returns-in_default-clause-none : goal.returns-in_default-clause-none
returns-in_default-clause-none c = λ g n rest e. c.in_default.ensures.none g (ap (λ v. slice_index v 1) (sym e)) (ap (λ v. slice_index v 2) (sym e)) (ap (λ v. slice_index v 3) (sym e)) (ap (λ v. slice_index v 4) (sym e)) (ap (λ v. slice_index v 5) (sym e))
