use Rattle.node_image.proofs.OneImage.{one_image}
use Rattle.node_image.proofs.laws.law_one_image.Goals as goal

pub returns : goal.returns
returns c = one_image
