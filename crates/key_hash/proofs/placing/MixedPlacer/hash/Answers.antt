use Rattle.std.specs.List.{IsDistinct}
use Rattle.key_hash.proofs.placing.MixedPlacer.hash.Goals as goal

pub returns-clause-distinct : goal.returns-clause-distinct
unfolding IsDistinct
returns-clause-distinct c = tt
