use Rattle.std.proofs.Common.{◌/◌, ◌≤◌, subst, sym}
use Rattle.node_words.specs.Addresses.{node_size}
use Rattle.image_audit.proofs.Images.{size_some}
use Rattle.node_image.proofs.image.Image.node_size.Goals as goal

pub returns-clause-some : goal.returns-clause-some
unfolding node_size
returns-clause-some c = subst (λ v. 47 ≤ c.args.self.now.geometry.words / v) (sym c.from-nodes.ensures) (size_some c.args.self.now.geometry)
