use Rattle.std.specs.Prelude.{reverse}
use Rattle.image_laws.proofs.Beyond.{image_keeps}
use Rattle.image_laws.proofs.laws.law_image_keeps.Goals as goal

pub returns : goal.returns
returns c = λ s log l a. image_keeps s (reverse log) l a
